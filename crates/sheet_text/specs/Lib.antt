pub mod Text
pub mod Printed
pub mod Stored
pub mod Laws
