pub mod Begun
pub mod Clerk
pub mod Course
pub mod Ended
pub mod Fault
pub mod Hand
pub mod OpenCalls
