-- What the functions between operands say.
pub mod Joints
