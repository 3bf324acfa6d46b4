pub mod Images
pub mod Printed
