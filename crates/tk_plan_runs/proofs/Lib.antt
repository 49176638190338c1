pub mod RunEvents
