pub mod Bodies
pub mod Numbers
pub mod ReadTo
