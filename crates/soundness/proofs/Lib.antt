pub mod LeafLaws
pub mod CheckLaws
pub mod CheckLoops
pub mod OpenLaws
pub mod ReadsLaws
pub mod Opened
