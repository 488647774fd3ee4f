pub mod Any
pub mod EntriesView
pub mod Extended
pub mod KeyValues
pub mod Named
pub mod Next
