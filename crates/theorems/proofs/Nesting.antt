-- Every node's span lies inside its parent's.
pub mod NestedLaw
