pub mod AccessTypes
