pub mod TotalsFacts
