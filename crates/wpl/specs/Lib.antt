pub mod Header
pub mod Load
pub mod Note
pub mod Write
pub mod RoundTrip
pub mod Starts
pub mod Order
