pub mod Run
pub mod Demand
pub mod Flight
pub mod TwoFlights
pub mod Witnesses
pub mod Anchors
