pub mod Fifo
pub mod FifoWork
pub mod Laws
