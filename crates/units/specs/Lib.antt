pub mod Rack
