-- What it is for a promise to leave one result; the crates with calls say it of theirs.
use mathlib.Core.Path.{◌≡◌, sym, ◌∙◌}

-- two results that keep a promise are equal
abbrev pub OneResult : {R : Type 0} → (R → Type 0) → Type 0
OneResult {R} Keeps = (r t : R) → Keeps r → Keeps t → r ≡ t

-- a promise that says which result it is leaves one
pub determined : {R : Type 0} {Keeps : R → Type 0} {a : R} → ((r : R) → Keeps r → r ≡ a) → OneResult Keeps
determined is r t g h = is r g ∙ sym (is t h)
