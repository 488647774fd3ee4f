pub mod Nexts
pub mod Dues
pub mod OneMore
pub mod UnderWay
pub mod Closings
pub mod Files
