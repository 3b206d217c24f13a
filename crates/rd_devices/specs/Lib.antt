pub mod Device
pub mod Portions
pub mod Streams
