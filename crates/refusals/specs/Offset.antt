-- How a place in the formatted text becomes one in the file: by the offset rule, and two exceptions. There is no other way.
use Rattle.std.specs.Prelude.{ℕ, ◌+◌, leb, ◌&&◌}
use Rattle.chars.specs.Pick.{pick}
use Rattle.refusals.specs.declared.Kind.{Kind}
use Rattle.refusals.specs.declared.Kind.TheVariants.{RustPanics}
use Rattle.refusals.specs.declared.FileSpan.{FileSpan}
use Rattle.refusals.specs.declared.Refusal.{Refusal}
use Rattle.refusals.specs.declared.TextSpan.{TextSpan}
use Rattle.refusals.specs.declared.TextRefusal.{TextRefusal}
use Rattle.refusals.specs.Refusal.{file_span, refusal, nowhere}

-- the largest number of 64 bits
abbrev pub top : ℕ
top = 0xFFFFFFFFFFFFFFFF

-- the sum of two numbers, and the largest number where it is above that
unfoldable pub saturating_add : ℕ → ℕ → ℕ
saturating_add a b = pick (leb (a + b) top) (a + b) top

-- a place in the formatted text, from a byte to another
abbrev pub text_span : ℕ → ℕ → TextSpan
text_span start end = record { 0 = start; 1 = end }

-- a refusal while the formatted text is read, at a place in it
abbrev pub text_refusal : Kind → ℕ → ℕ → TextRefusal
text_refusal k start end = record { kind = k; place = text_span start end }

-- what stands for a panic of the ported code has no place
abbrev pub panics : TextRefusal
panics = text_refusal RustPanics 0 0

-- the place moved by an amount, as the Rust's `offset` does: a sum that is too large becomes the largest number
unfoldable pub offset : TextRefusal → ℕ → Refusal
offset e amount = refusal e.kind (file_span (saturating_add e.place.0 amount) (saturating_add e.place.1 amount))

-- a refusal in the half behind the slash moves by the list's span start, the slash's position and 1. That sum is the Rust's own `+`,
-- and where it is too large the Rust panics
unfoldable pub offset_second : TextRefusal → ℕ → ℕ → Refusal
offset_second e start slash = pick (leb (start + slash + 1) top) (offset e (start + slash + 1)) (nowhere RustPanics)

-- the own place of a page number moves by the list's span start. Both sums are the Rust's own `+`, and where one is too large the Rust
-- panics
unfoldable pub offset_number : TextRefusal → ℕ → Refusal
offset_number e start =
    pick (leb (e.place.1 + start) top && leb (e.place.0 + start) top)
    (refusal e.kind (file_span (e.place.0 + start) (e.place.1 + start)))
    (nowhere RustPanics)

-- the first exception: the day that the month field holds has its place in the formatted text, whatever the list's span
unfoldable pub unshifted : TextRefusal → Refusal
unshifted e = refusal e.kind (file_span e.place.0 e.place.1)

-- the second exception: what stands behind the second number of a page range has a place that starts in the formatted text, whatever
-- the list's span, and ends where that span ends in the file
unfoldable pub until_span_end : Kind → ℕ → FileSpan → Refusal
until_span_end k start span = refusal k (file_span start span.1)
