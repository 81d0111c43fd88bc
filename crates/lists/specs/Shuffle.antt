-- The numbers below a bound in another order.
use Rattle.std.specs.Prelude.{◌≡◌, ℕ, ◌<◌}

-- each number below n goes to a number below n, and no two to one
pub record Shuffle (σ : ℕ → ℕ) (n : ℕ) : Type 0 where
  pub within : (a : ℕ) → a < n → σ a < n
  pub apart : (a b : ℕ) → a < n → b < n → σ a ≡ σ b → a ≡ b
