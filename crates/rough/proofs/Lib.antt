pub mod RoughLook
