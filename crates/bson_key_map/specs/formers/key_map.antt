pub mod KeyMap
