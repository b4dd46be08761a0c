-- The white space and the mark that are cut off a text's end: they are no part of the number at the front of a half.
-- Assumes nothing.
use mathlib.Core.Path.{◌≡◌, refl, sym, ap, subst, ◌∙◌}
use mathlib.Core.Bool.{Bool, true, false, false≢true, ◌||◌}
use mathlib.Core.List.{List, [], ◌∷◌, ◌++◌, append-nil, append_assoc}
use Prim.Native.Nat.{ℕ, ◌+◌, ◌-◌, ◌<◌}
use native.Mathlib.Omega.{arith}
use borrow.Author.Tests.{eqb-true, eq-eqb}
use lib.Dec.{eqb, lit<}
use lib.ListN.{length, get_or, take, drop, length-append}
use lib.Seq.{drop-append_seam, take-append_seam, get_or-append-add}
use Rattle.chars.specs.Pick.{pick}
use Rattle.chars.specs.Classes.{within, is_whitespace, is_numeric, is_ascii_digit}
use Rattle.chars.specs.Utf8.{encode, encode_all}
use Rattle.chars.proofs.Cases.{of_test}
use Rattle.chars.proofs.Encode.{encode_one}
use Rattle.chars.proofs.Laws.{past_end}
use Rattle.scanner.specs.declared.Class.TheVariants.{Whitespace, Numeric, Sign}
use Rattle.scanner.specs.Class.{in_class}
use Rattle.scanner.specs.Scan.{eat_while}
use Rattle.scanner.proofs.Front.{From, from_start, front-past}
use Rattle.scanner.proofs.Walk.{walk_kept, walk-ended}
use Rattle.numbers.specs.Trim.{step_by, step_over, trim_step, trim_from, trim_end}
use Rattle.numbers.proofs.Trims.{step_fits}
use Rattle.chunks.proofs.Proper.{Spelled, Spells, spells_none, spells_more, encode-append}
use Rattle.datefield.specs.Text.{trimmed, last_byte, is_uncertain, is_approximate, unmarked}
use Rattle.roundtrip_laws.proofs.Bytes.{Each, each_append, each_at, each_of}
use Rattle.roundtrip_laws.proofs.Bytes.Each.{none, more}
use Rattle.verdicts.proofs.Fronts.{before, behind, has, front, skip, skip_one, number, apart, front-skip, eaten, eaten-to, skip-spells, char-at, char-some}
use Rattle.verdicts.proofs.Formed.{White, numeric-solid, sign-solid}

-- ---- what is cut does not count

-- neither numeric nor a sign, and no slash and no X
pub record Idle (c : ℕ) : Type 0 where
  pub numeric : in_class Numeric c ≡ false
  pub sign : in_class Sign c ≡ false
  pub slash : eqb c 0x2F ≡ false
  pub ex : eqb c 0x58 ≡ false

-- the first list is the second and such ones behind it
data Tail : List ℕ → List ℕ → Type 0 where
  tail : (p : List ℕ) {q : List ℕ} → Each Idle q → Tail (p ++ q) p

idle-skip : {q : List ℕ} → Each Idle q → Each Idle (skip Whitespace q)
unfolding pick
idle-skip none = none
idle-skip (more {x} h e) = of_test (in_class Whitespace x) (λ t. rw t (idle-skip e)) (λ t. rw t (more h e))

skip-front : (p : List ℕ) {q : List ℕ} → Each Idle q → Tail (skip Whitespace (p ++ q)) (skip Whitespace p)
unfolding pick
skip-front [] e = tail [] (idle-skip e)
skip-front (c ∷ p) e = of_test (in_class Whitespace c) (λ t. rw t (skip-front p e)) (λ t. rw t (tail (c ∷ p) e))

skip-tail : {l p : List ℕ} → Tail l p → Tail (skip Whitespace l) (skip Whitespace p)
skip-tail (tail p e) = skip-front p e

one-front : (p : List ℕ) {q : List ℕ} → Each Idle q → Tail (skip_one Sign (p ++ q)) (skip_one Sign p)
unfolding pick
one-front [] none = tail [] none
one-front [] (more h e) = rw h.sign (tail [] (more h e))
one-front (c ∷ p) e = of_test (in_class Sign c) (λ t. rw t (tail p e)) (λ t. rw t (tail (c ∷ p) e))

one-tail : {l p : List ℕ} → Tail l p → Tail (skip_one Sign l) (skip_one Sign p)
one-tail (tail p e) = one-front p e

numeric-front : (p : List ℕ) {q : List ℕ} → Each Idle q → front Numeric (p ++ q) ≡ front Numeric p
unfolding pick
numeric-front [] none = refl
numeric-front [] (more h e) = rw h.numeric
numeric-front (c ∷ p) e = of_test (in_class Numeric c) (λ t. rw (t, numeric-front p e)) (λ t. rw t)

numeric-tail : {l p : List ℕ} → Tail l p → front Numeric l ≡ front Numeric p
numeric-tail (tail p e) = numeric-front p e

number-tail : {l p : List ℕ} → Tail l p → number l ≡ number p
number-tail t = numeric-tail (skip-tail (one-tail (skip-tail t)))

before-idle : {q : List ℕ} → Each Idle q → before 0x2F q ≡ q
unfolding pick
before-idle none = refl
before-idle (more h e) = rw (h.slash, before-idle e)

behind-idle : {q : List ℕ} → Each Idle q → behind 0x2F q ≡ []
unfolding pick
behind-idle none = refl
behind-idle (more h e) = rw (h.slash, behind-idle e)

before-front : (p : List ℕ) {q : List ℕ} → Each Idle q → Tail (before 0x2F (p ++ q)) (before 0x2F p)
unfolding pick
before-front [] e = rw (before-idle e) (tail [] e)
before-front (c ∷ p) e = of_test (eqb c 0x2F) (λ t. rw t (tail [] none)) (λ t. rw t (longer (before-front p e)))
  where
    longer : {l r : List ℕ} → Tail l r → Tail (c ∷ l) (c ∷ r)
    longer (tail r i) = tail (c ∷ r) i

behind-front : (p : List ℕ) {q : List ℕ} → Each Idle q → Tail (behind 0x2F (p ++ q)) (behind 0x2F p)
unfolding pick
behind-front [] e = rw (behind-idle e) (tail [] none)
behind-front (c ∷ p) e = of_test (eqb c 0x2F) (λ t. rw t (tail p e)) (λ t. rw t (behind-front p e))

module _ (p : List ℕ) {q : List ℕ} (e : Each Idle q) where
  -- the number of each half is the same without them
  pub before-cut : number (before 0x2F (p ++ q)) ≡ number (before 0x2F p)
  before-cut = number-tail (before-front p e)

  pub behind-cut : number (behind 0x2F (p ++ q)) ≡ number (behind 0x2F p)
  behind-cut = number-tail (behind-front p e)

-- and so is whether there is an X
pub has-cut : (p : List ℕ) {q : List ℕ} → Each Idle q → has 0x58 (p ++ q) ≡ has 0x58 p
has-cut [] none = refl
has-cut [] (more h e) = rw h.ex (has-cut [] e)
has-cut (c ∷ p) e = rw (has-cut p e)

-- ---- white space and marks are such

white-idle : (c : ℕ) → White c → Idle c
unfolding in_class is_whitespace within
white-idle c h =
    record {
      numeric = of_test (in_class Numeric c) (λ t. absurd (false≢true (sym (numeric-solid c t) ∙ h.is))) (λ t. t);
      sign = of_test (in_class Sign c) (λ t. absurd (false≢true (sym (sign-solid c t) ∙ h.is))) (λ t. t);
      slash = of_test (eqb c 0x2F) (λ t. absurd (false≢true (rw (eqb-true c 0x2F t) at h.is))) (λ t. t);
      ex = of_test (eqb c 0x58) (λ t. absurd (false≢true (rw (eqb-true c 0x58 t) at h.is))) (λ t. t);
    }

-- whether a byte is a mark
abbrev is_mark : ℕ → Bool
is_mark b = is_uncertain b || is_approximate b

mark-is : (P : ℕ → Type 0) → P 0x3F → P 0x25 → P 0x7E → (b : ℕ) → is_mark b ≡ true → P b
unfolding is_uncertain is_approximate
mark-is P x y z b e =
    of_test (eqb b 0x3F) (λ t. rw (eqb-true b 0x3F t) x)
    (λ t.
    of_test (eqb b 0x25) (λ u. rw (eqb-true b 0x25 u) y)
    (λ u. of_test (eqb b 0x7E) (λ v. rw (eqb-true b 0x7E v) z) (λ v. absurd (false≢true (rw (t, u, v) at e)))))

mark-idle : (b : ℕ) → is_mark b ≡ true → Idle b
unfolding in_class is_numeric is_ascii_digit within
mark-idle b e = mark-is Idle (record { numeric = refl; sign = refl; slash = refl; ex = refl }) (record { numeric = refl; sign = refl; slash = refl; ex = refl }) (record { numeric = refl; sign = refl; slash = refl; ex = refl }) b e

-- ---- trimming and unmarking, by codes

-- a place of the text is behind some of the codes
record Split (cs : List ℕ) (i : ℕ) : Type 0 where
  kept : List ℕ
  left : List ℕ
  whole : cs ≡ kept ++ left
  place : i ≡ length (encode_all kept)

-- codes that are read as themselves, cut in two
pub spells-front : (l r : List ℕ) → Spells (l ++ r) → Spells l
spells-front [] r p = spells_none
spells-front (c ∷ l) r (spells_more p s) = spells_more p (spells-front l r s)

spells-rest : (l : List ℕ) {r : List ℕ} → Spells (l ++ r) → Spells r
spells-rest [] p = p
spells-rest (c ∷ l) (spells_more p s) = spells-rest l s

spells-first : {c : ℕ} {r : List ℕ} → Spells (c ∷ r) → Spelled c
spells-first (spells_more p s) = p

bytes-long : (l r : List ℕ) → length (encode_all (l ++ r)) ≡ length (encode_all l) + length (encode_all r)
bytes-long l r = ap length (encode-append l r) ∙ length-append (encode_all l) (encode_all r)

all_white : (l : List ℕ) → skip Whitespace l ≡ [] → Each White l
unfolding pick
all_white [] e = none
all_white (c ∷ l) e =
    of_test (in_class Whitespace c) (λ t. more (record { is = t }) (all_white l (rw t at e)))
    (λ t. absurd (let n = ap length (rw t at e) in omega arith))

module _ (cs : List ℕ) (p : Spells cs) {i : ℕ} (k : Split cs i) where
  split_from : From (encode_all cs) i (encode_all k.left)
  split_from =
      record {
        is =
            ap (λ (l : List ℕ). drop i (encode_all l)) k.whole
            ∙ ap (drop i) (encode-append k.kept k.left)
            ∙ ap (λ (n : ℕ). drop n (encode_all k.kept ++ encode_all k.left)) k.place
            ∙ drop-append_seam (encode_all k.kept) (encode_all k.left);
      }

  split-spells : Spells k.left
  split-spells = spells-rest k.kept (subst Spells k.whole p)

  -- no character is left, or one that is no white space
  step-none : skip Whitespace k.left ≡ [] → trim_step (encode_all cs) i ≡ 0
  unfolding trim_step step_over step_by encode_all
  step-none e =
      let f = eaten Whitespace split-spells split_from in
      rw (past_end (encode_all cs) (eat_while Whitespace (encode_all cs) i) (front-past (subst (λ (l : List ℕ). From (encode_all cs) (eat_while Whitespace (encode_all cs) i) (encode_all l)) e f)))

  step-some : (c : ℕ) (r : List ℕ) → skip Whitespace k.left ≡ c ∷ r → (0 < trim_step (encode_all cs) i) × Split cs (i + trim_step (encode_all cs) i)
  unfolding trim_step step_over step_by encode_all
  step-some c r e =
      let s = encode_all cs in
      let a = eat_while Whitespace s i in
      let w = front Whitespace k.left in
      let q = spells-first (subst Spells e (skip-spells Whitespace split-spells)) in
      let g = subst (λ (l : List ℕ). From s a (encode_all l)) e (eaten Whitespace split-spells split_from) in
      let far : a ≡ i + length (encode_all w) = eaten-to Whitespace split-spells split_from in
      let some = char-some (encode_all r) q g in
      rw (char-at (encode_all r) q g) (
        omega arith,
        record {
          kept = k.kept ++ (w ++ c ∷ []);
          left = r;
          whole =
              k.whole
              ∙ ap (λ (l : List ℕ). k.kept ++ l) (sym (front-skip Whitespace k.left))
              ∙ ap (λ (l : List ℕ). k.kept ++ (w ++ l)) e
              ∙ sym (simp append_assoc);
          place = omega (arith, k.place, bytes-long k.kept (w ++ c ∷ []), bytes-long w (c ∷ []), length-append (encode c) []);
        },
      )

-- the walk goes over codes
walk-on : (cs : List ℕ) → Spells cs → (i : ℕ) → 0 < trim_step (encode_all cs) i → Split cs i → Split cs (i + trim_step (encode_all cs) i)
walk-on cs p i h k = by-rest (skip Whitespace k.left) refl
  where
    by-rest : (l : List ℕ) → skip Whitespace k.left ≡ l → Split cs (i + trim_step (encode_all cs) i)
    by-rest [] e = absurd (omega (arith, step-none cs p k e))
    by-rest (c ∷ r) e = (step-some cs p k c r e).1

walked : (cs : List ℕ) → Spells cs → Split cs (trim_end (encode_all cs))
unfolding trim_end trim_from encode_all
walked cs p =
    let s = encode_all cs in
    walk_kept (trim_step s) (length s) (step_fits s) (Split cs) (walk-on cs p) (length s) 0 (record { kept = []; left = cs; whole = refl; place = refl })

ended : (s : List ℕ) → trim_step s (trim_end s) ≡ 0
unfolding trim_end trim_from
ended s = walk-ended (trim_step s) (length s) (step_fits s) 0

left-white : (cs : List ℕ) → Spells cs → {i : ℕ} → trim_step (encode_all cs) i ≡ 0 → (k : Split cs i) → Each White k.left
left-white cs p h k = by-rest (skip Whitespace k.left) refl
  where
    by-rest : (l : List ℕ) → skip Whitespace k.left ≡ l → Each White k.left
    by-rest [] e = all_white k.left e
    by-rest (c ∷ r) e = absurd (omega (arith, (step-some cs p k c r e).0))

-- a text is the bytes of codes, but for some at the end that do not count
pub record Cut (cs t : List ℕ) : Type 0 where
  pub kept : List ℕ
  pub left : List ℕ
  pub whole : cs ≡ kept ++ left
  pub idle : Each Idle left
  pub text : t ≡ encode_all kept

trim-cut : (cs : List ℕ) → Spells cs → Cut cs (trimmed (encode_all cs))
unfolding trimmed
trim-cut cs p =
    let s = encode_all cs in
    let k = walked cs p in
    record {
      kept = k.kept;
      left = k.left;
      whole = k.whole;
      idle = each_of white-idle (left-white cs p (ended s) k);
      text =
          ap (λ (n : ℕ). take n s) k.place
          ∙ ap (λ (l : List ℕ). take (length (encode_all k.kept)) (encode_all l)) k.whole
          ∙ ap (take (length (encode_all k.kept))) (encode-append k.kept k.left)
          ∙ take-append_seam (encode_all k.kept) (encode_all k.left);
    }

-- a last byte below 0x80 is the last code
record Last (cs : List ℕ) (b : ℕ) : Type 0 where
  init : List ℕ
  whole : cs ≡ init ++ b ∷ []

last-append : (l r : List ℕ) → 0 < length r → last_byte (l ++ r) ≡ last_byte r
unfolding last_byte
last-append l r h =
    let n : length (l ++ r) - 1 ≡ length l + (length r - 1) = omega (arith, length-append l r) in
    ap (λ (i : ℕ). get_or (l ++ r) i 0) n ∙ get_or-append-add l r (length r - 1) 0

some_bytes : {c : ℕ} → Spelled c → 0 < length (encode c)
some_bytes {c} p = char-some [] p (from_start (encode c ++ []))

module _ (b : ℕ) (l : 0 < b) (h : b < 0x80) where
  last_one : (c : ℕ) → Spelled c → last_byte (encode c) ≡ b → c ≡ b
  unfolding last_byte
  last_one c p e =
      of_test (eqb c b) (λ t. eqb-true c b t)
      (λ t.
      let n = each_at (apart b h c t) (length (encode c) - 1) (omega (arith, some_bytes p)) in
      absurd (false≢true (sym n.is ∙ eq-eqb _ b e)))

  last_code : {cs : List ℕ} → Spells cs → last_byte (encode_all cs) ≡ b → Last cs b
  unfolding encode_all last_byte
  last_code spells_none e = absurd (omega arith)
  last_code (spells_more {c} p spells_none) e =
      let z = last_one c p (ap last_byte (sym (append-nil (encode c))) ∙ e) in
      record { init = []; whole = ap (λ (d : ℕ). d ∷ []) z }
  last_code (spells_more {c} p (spells_more {c = d} {cs = cs} q r)) e =
      let more_bytes : 0 < length (encode_all (d ∷ cs)) = omega (arith, some_bytes q, length-append (encode d) (encode_all cs)) in
      let k = last_code (spells_more q r) (sym (last-append (encode c) (encode_all (d ∷ cs)) more_bytes) ∙ e) in
      record { init = c ∷ k.init; whole = ap (λ (l : List ℕ). c ∷ l) k.whole }

-- one mark less
alone : (b : ℕ) → b < 0x80 → encode_all (b ∷ []) ≡ b ∷ []
unfolding encode_all
alone b h = rw (encode_one b h)

mark-low : (b : ℕ) → is_mark b ≡ true → (0 < b) × (b < 0x80)
mark-low b e = mark-is (λ (x : ℕ). (0 < x) × (x < 0x80)) (lit< tt, lit< tt) (lit< tt, lit< tt) (lit< tt, lit< tt) b e

mark-cut : (cs : List ℕ) → Spells cs → Cut cs (unmarked (encode_all cs))
unfolding unmarked pick
mark-cut cs p =
    let u = encode_all cs in
    of_test (is_mark (last_byte u))
    (λ t.
    let b = last_byte u in
    let m = mark-low b t in
    let k = last_code b m.0 m.1 p refl in
    let a = encode_all k.init in
    let whole : u ≡ a ++ b ∷ [] = ap encode_all k.whole ∙ encode-append k.init (b ∷ []) ∙ ap (λ (l : List ℕ). a ++ l) (alone b m.1) in
    let n : length u - 1 ≡ length a = omega (arith, ap length whole, length-append a (b ∷ [])) in
    record {
      kept = k.init;
      left = b ∷ [];
      whole = k.whole;
      idle = more (mark-idle b t) none;
      text = rw t (ap (λ (i : ℕ). take i u) n ∙ ap (take (length a)) whole ∙ take-append_seam a (b ∷ []));
    })
    (λ t. record { kept = cs; left = []; whole = sym (append-nil cs); idle = none; text = rw t })

-- the text that is taken apart is the codes, but for what does not count at their end
pub text-cut : (cs : List ℕ) → Spells cs → Cut cs (unmarked (trimmed (encode_all cs)))
text-cut cs p =
    let t = trim-cut cs p in
    let m = mark-cut t.kept (spells-front t.kept t.left (subst Spells t.whole p)) in
    record {
      kept = m.kept;
      left = m.left ++ t.left;
      whole = t.whole ∙ ap (λ (l : List ℕ). l ++ t.left) m.whole ∙ append_assoc m.kept m.left t.left;
      idle = each_append m.idle t.idle;
      text = ap unmarked t.text ∙ m.text;
    }
