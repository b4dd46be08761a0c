-- The lines at the end of a report say one thing: wherever two texts with them behind are the same, the five numbers are. Assumes nothing.
use mathlib.Core.Path.{◌≡◌, refl, sym, ap, ◌∙◌}
use mathlib.Core.List.{List, [], ◌∷◌, ◌++◌}
use mathlib.Core.Logic.{◌⊎◌, inl, inr, ⊎_elim}
use Prim.Native.Nat.{ℕ, zero, suc, ◌+◌, ◌/◌, ◌%◌, ◌≤◌, ◌<◌}
use native.Mathlib.Nat.{eq-zero-or-pos}
use native.Mathlib.Omega.{arith}
use borrow.Author.Tests.{ltb-true, ltb-false, ne_eqb}
use lib.Dec.{eqb, ltb}
use lib.ListN.{length, take, drop}
use lib.Seq.{drop-append_seam, take-append_seam}
use Rattle.chars.specs.Pick.{pick}
use Rattle.chars.specs.Ascii.{ascii}
use Rattle.chars.proofs.Cases.{of_test, by-test}
use Rattle.puts.specs.Numbers.{digits, digit_count, width, decimal}
use Rattle.puts.proofs.Counts.{length_digits, no-digits, one_more, padded, unpadded}
use Rattle.findings.specs.Words.{counted}
use Rattle.findings.specs.Lines.{signing, summary}
use Rattle.findings.specs.Sorts.{cut_at}
use Rattle.findings.proofs.Shape.{occurs, occurs-append}
use Rattle.findings.proofs.Sorts.{cut-first, cut-none}

-- ---- a number by its digits

-- two texts of one length, and what is behind them
same-front : (s t u v : List ℕ) → length s ≡ length t → s ++ u ≡ t ++ v → s ≡ t
same-front s t u v l e = sym (take-append_seam s u) ∙ ap (take (length s)) e ∙ rw l (take-append_seam t v)

same_back : (s t u v : List ℕ) → length s ≡ length t → s ++ u ≡ t ++ v → u ≡ v
same_back s t u v l e = sym (drop-append_seam s u) ∙ ap (drop (length s)) e ∙ rw l (drop-append_seam t v)

fewer-left : (w n : ℕ) → digit_count n ≤ suc w → digit_count (n / 10) ≤ w
fewer-left w n h =
    ⊎_elim (λ (e : n ≡ 0). let z : n / 10 ≡ 0 = omega arith in rw (z, no-digits) (omega arith)) (λ (l : 0 < n). omega (arith, one_more n l)) (eq-zero-or-pos n)

none_left : (n : ℕ) → digit_count n ≤ 0 → n ≡ 0
none_left n h = ⊎_elim (λ (e : n ≡ 0). e) (λ (l : 0 < n). absurd (omega (arith, one_more n l))) (eq-zero-or-pos n)

digits-once : (w n m : ℕ) → digit_count n ≤ w → digit_count m ≤ w → digits w n ≡ digits w m → n ≡ m
digits-once zero n m h k e = none_left n h ∙ sym (none_left m k)
digits-once (suc w) n m h k e =
    let l : length (digits w (n / 10)) ≡ length (digits w (m / 10)) = length_digits w (n / 10) ∙ sym (length_digits w (m / 10)) in
    let p = digits-once w (n / 10) (m / 10) (fewer-left w n h) (fewer-left w m k) (same-front (digits w (n / 10)) (digits w (m / 10)) _ _ l e) in
    let q : (48 + n % 10) ∷ [] ≡ (48 + m % 10) ∷ [] = same_back (digits w (n / 10)) (digits w (m / 10)) _ _ l e in
    let r : 48 + n % 10 ≡ 48 + m % 10 = cc in
    omega arith

enough : (n : ℕ) → digit_count n ≤ width 1 n
enough n =
    of_test (ltb (digit_count n) 1) (λ q. omega (arith, ltb-true (digit_count n) 1 q, padded 1 n (ltb-true (digit_count n) 1 q)))
    (λ q. omega (arith, unpadded 1 n (ltb-false (digit_count n) 1 q)))

-- a written number is one
pub decimal-once : (n m : ℕ) → decimal 1 n ≡ decimal 1 m → n ≡ m
unfolding decimal
decimal-once n m e =
    let w : width 1 n ≡ width 1 m = sym (length_digits (width 1 n) n) ∙ ap length e ∙ length_digits (width 1 m) m in
    digits-once (width 1 n) n m (enough n) (rw w (enough m)) (e ∙ rw w)

counted-once : (words : List ℕ) (n m : ℕ) → counted words n ≡ counted words m → n ≡ m
counted-once words n m e = decimal-once n m (same_back words words (decimal 1 n) (decimal 1 m) refl e)

-- ---- bytes that are no digits

digits-none : (b : ℕ) → ((n : ℕ) → 48 + n % 10 ≡ b → ⊥) → (w n : ℕ) → occurs b (digits w n) ≡ 0
unfolding occurs pick
digits-none b h zero n = refl
digits-none b h (suc w) n =
    let l = occurs-append b (digits w (n / 10)) ((48 + n % 10) ∷ []) in
    let i = digits-none b h w (n / 10) in
    let z : occurs b ((48 + n % 10) ∷ []) ≡ 0 = rw (ne_eqb (48 + n % 10) b (h n)) in
    omega arith

decimal-none : (b : ℕ) → ((n : ℕ) → 48 + n % 10 ≡ b → ⊥) → (n : ℕ) → occurs b (decimal 1 n) ≡ 0
unfolding decimal
decimal-none b h n = digits-none b h (width 1 n) n

counted_none : (b : ℕ) (words : List ℕ) → ((n : ℕ) → 48 + n % 10 ≡ b → ⊥) → occurs b words ≡ 0 → (n : ℕ) → occurs b (counted words n) ≡ 0
counted_none b words h e n = omega (arith, occurs-append b words (decimal 1 n), decimal-none b h n)

comma : (words : List ℕ) → occurs 44 words ≡ 0 → (n : ℕ) → occurs 44 (counted words n) ≡ 0
comma words e n = counted_none 44 words (λ m f. omega arith) e n

-- ---- the numbers of the two lines

-- what stands behind the last comma
abbrev last_part : ℕ → ℕ → List ℕ
last_part bad n = counted (ascii " bad rows ") bad ++ (10 ∷ signing n)

signing-none : (b : ℕ) → ((n : ℕ) → 48 + n % 10 ≡ b → ⊥) → occurs b (ascii "safe to sign\n") ≡ 0 → occurs b (ascii "do not sign: ") ≡ 0 → occurs b (ascii " finding\n") ≡ 0 → occurs b (ascii " findings\n") ≡ 0
    → (n : ℕ) → occurs b (signing n) ≡ 0
unfolding signing
signing-none b h p q r s n =
    by-test (λ (t : List ℕ). occurs b t ≡ 0) (eqb n 0) (λ _. p)
    (λ _.
    let l = occurs-append b (counted (ascii "do not sign: ") n) (pick (eqb n 1) (ascii " finding\n") (ascii " findings\n")) in
    let w : occurs b (pick (eqb n 1) (ascii " finding\n") (ascii " findings\n")) ≡ 0 = by-test (λ (t : List ℕ). occurs b t ≡ 0) (eqb n 1) (λ _. r) (λ _. s) in
    omega (arith, counted_none b (ascii "do not sign: ") h q n))

module _ (rows strict otherwise refused bad : ℕ) where
  last_none : occurs 44 (last_part bad (otherwise + refused + bad)) ≡ 0
  unfolding occurs pick
  last_none =
      let s = signing-none 44 (λ m f. omega arith) refl refl refl refl (otherwise + refused + bad) in
      omega (arith, occurs-append 44 (counted (ascii " bad rows ") bad) (10 ∷ signing (otherwise + refused + bad)), comma (ascii " bad rows ") refl bad)

  -- cut at its commas
  summary-parts : cut_at 44 (summary rows strict otherwise refused bad)
      ≡ counted (ascii "rows ") rows
      ∷ counted (ascii " dates ") (strict + otherwise + refused)
      ∷ counted (ascii " strict ") strict
      ∷ counted (ascii " read otherwise ") otherwise
      ∷ counted (ascii " refused ") refused
      ∷ last_part bad (otherwise + refused + bad)
      ∷ []
  unfolding summary occurs pick
  summary-parts =
      rw (
        cut-first 44 (counted (ascii "rows ") rows) _ (comma (ascii "rows ") refl rows),
        cut-first 44 (counted (ascii " dates ") (strict + otherwise + refused)) _ (comma (ascii " dates ") refl (strict + otherwise + refused)),
        cut-first 44 (counted (ascii " strict ") strict) _ (comma (ascii " strict ") refl strict),
        cut-first 44 (counted (ascii " read otherwise ") otherwise) _ (comma (ascii " read otherwise ") refl otherwise),
        cut-first 44 (counted (ascii " refused ") refused) _ (comma (ascii " refused ") refl refused),
        cut-none 44 (last_part bad (otherwise + refused + bad)) last_none,
      )

  -- so often the first letter stands in it
  summary-letters : occurs 114 (summary rows strict otherwise refused bad) ≡ 6
  unfolding summary occurs pick
  summary-letters =
      let d = decimal-none 114 (λ m f. omega arith) in
      let a = d rows in
      let b = d (strict + otherwise + refused) in
      let c = d strict in
      let e = d otherwise in
      let f = d refused in
      let g = d bad in
      let s = signing-none 114 (λ m f. omega arith) refl refl refl refl (otherwise + refused + bad) in
      simp occurs-append (omega arith)

same_rest : {x y : ℕ} {s t : List ℕ} → x ∷ s ≡ y ∷ t → s ≡ t
same_rest e = cc

-- of two texts that end at the same place one ends with the other
overlap : (u u' v v' : List ℕ) → u ++ v ≡ u' ++ v' → ((w : List ℕ) × (v ≡ w ++ v')) ⊎ ((w : List ℕ) × (v' ≡ w ++ v))
overlap [] u' v v' e = inl (u', e)
overlap (x ∷ u) [] v v' e = inr (x ∷ u, sym e)
overlap (x ∷ u) (y ∷ u') v v' e = overlap u u' v v' (same_rest e)

last-once : (bad bad' n n' : ℕ) → last_part bad n ≡ last_part bad' n' → bad ≡ bad'
unfolding occurs pick
last-once bad bad' n n' e =
    let h = counted_none 10 (ascii " bad rows ") (λ m f. omega arith) refl in
    let p = sym (cut-first 10 (counted (ascii " bad rows ") bad) (signing n) (h bad)) ∙ ap (cut_at 10) e ∙ cut-first 10 (counted (ascii " bad rows ") bad') (signing n') (h bad') in
    let f : counted (ascii " bad rows ") bad ≡ counted (ascii " bad rows ") bad' = cc in
    counted-once (ascii " bad rows ") bad bad' f

module _ (rows strict otherwise refused bad rows' strict' otherwise' refused' bad' : ℕ) where
  -- nothing stands before it in another
  none_before : (w : List ℕ) → summary rows strict otherwise refused bad ≡ w ++ summary rows' strict' otherwise' refused' bad' → w ≡ []
  unfolding summary occurs pick
  none_before [] e = refl
  none_before (x ∷ w) e =
      let a = summary-letters rows strict otherwise refused bad in
      let b = summary-letters rows' strict' otherwise' refused' bad' in
      let l = ap (occurs 114) e ∙ occurs-append 114 (x ∷ w) (summary rows' strict' otherwise' refused' bad') in
      let f : x ≡ 114 = cc in
      let g : occurs 114 (x ∷ w) ≡ 1 + occurs 114 w = rw f in
      absurd (omega arith)

  parts-once : summary rows strict otherwise refused bad ≡ summary rows' strict' otherwise' refused' bad'
      → (rows ≡ rows') × (strict ≡ strict') × (otherwise ≡ otherwise') × (refused ≡ refused') × (bad ≡ bad')
  parts-once e =
      let p = sym (summary-parts rows strict otherwise refused bad) ∙ ap (cut_at 44) e ∙ summary-parts rows' strict' otherwise' refused' bad' in
      let a : counted (ascii "rows ") rows ≡ counted (ascii "rows ") rows' = cc in
      let b : counted (ascii " strict ") strict ≡ counted (ascii " strict ") strict' = cc in
      let c : counted (ascii " read otherwise ") otherwise ≡ counted (ascii " read otherwise ") otherwise' = cc in
      let d : counted (ascii " refused ") refused ≡ counted (ascii " refused ") refused' = cc in
      let f : last_part bad (otherwise + refused + bad) ≡ last_part bad' (otherwise' + refused' + bad') = cc in
      (counted-once (ascii "rows ") rows rows' a, counted-once (ascii " strict ") strict strict' b, counted-once (ascii " read otherwise ") otherwise otherwise' c, counted-once (ascii " refused ") refused refused' d, last-once bad bad' _ _ f)

-- the numbers of two such texts are the same
pub summary-once : (u u' : List ℕ) (rows strict otherwise refused bad rows' strict' otherwise' refused' bad' : ℕ) → u ++ summary rows strict otherwise refused bad ≡ u' ++ summary rows' strict' otherwise' refused' bad'
    → (rows ≡ rows') × (strict ≡ strict') × (otherwise ≡ otherwise') × (refused ≡ refused') × (bad ≡ bad')
summary-once u u' a b c d e a' b' c' d' e' f =
    ⊎_elim
    (λ p. parts-once a b c d e a' b' c' d' e' (p.1 ∙ ap (λ (w : List ℕ). w ++ summary a' b' c' d' e') (none_before a b c d e a' b' c' d' e' p.0 p.1)))
    (λ p. parts-once a b c d e a' b' c' d' e' (sym (p.1 ∙ ap (λ (w : List ℕ). w ++ summary a b c d e) (none_before a' b' c' d' e' a b c d e p.0 p.1))))
    (overlap u u' (summary a b c d e) (summary a' b' c' d' e') f)
