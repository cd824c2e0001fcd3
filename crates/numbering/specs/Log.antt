-- The whole part of the logarithm to base 2, as 01's bounds use it.
use Rattle.std.specs.Prelude.{ℕ, zero, suc, ◌/◌, ltb, true, false}

-- how often n can be halved before it is 1, in at most the given number of steps
unfoldable pub halvings : ℕ → ℕ → ℕ
halvings zero n = 0
halvings (suc k) n = elim (ltb 1 n) [ true ↦ suc (halvings k (n / 2)) | false ↦ 0 ]

-- floor(log2 n): from n = 1 on, the one number with 2^log2 n ≤ n < 2^(log2 n + 1) (`log2_low`, `log2_high`, `log2_only`)
unfoldable pub log2 : ℕ → ℕ
log2 n = halvings n n
