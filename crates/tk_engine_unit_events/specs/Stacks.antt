-- What contracts see of a stack.
use Rattle.std.specs.Prelude.{ℕ, List}

-- the elements, the one added last first, and for how many more there is room
pub record StackView (T : Type 0) : Type 0 where
  pub elements : List T
  pub room : ℕ
