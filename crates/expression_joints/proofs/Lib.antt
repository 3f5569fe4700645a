-- Laws of what stands between operands.
pub mod JointLaws
