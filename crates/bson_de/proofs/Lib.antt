pub mod LeafRows
