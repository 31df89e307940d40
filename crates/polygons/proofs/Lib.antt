pub mod Booleans
pub mod ListLaws
pub mod LimitLaws
pub mod LeastLaws
pub mod PlaceLaws
pub mod FlatLaws
pub mod LineCases
