pub mod RawTreeView
