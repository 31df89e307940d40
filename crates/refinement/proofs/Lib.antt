pub mod FirstLaws
pub mod DropLaws
pub mod PairLaws
pub mod SearchLaws
pub mod FindLaws
pub mod PairLoops
pub mod RefineLoops
