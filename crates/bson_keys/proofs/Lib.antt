pub mod Distinct
mod KeyPlaces
mod More
