-- The formatted text of a clean list is the bytes of characters, so its upper case has as many bytes.
-- Assumes nothing.
use mathlib.Core.Path.{◌≡◌, refl, sym, ap, subst, ◌∙◌}
use mathlib.Core.Bool.{Bool, true, false}
use mathlib.Core.List.{List, [], ◌∷◌, ◌++◌, append-nil, append_assoc}
use Prim.Native.Nat.{ℕ, zero, suc, ◌+◌, ◌≤◌, ◌<◌}
use native.Mathlib.Omega.{arith}
use lib.Dec.{eqb, lit<}
use lib.ListN.{length, take, drop, length-append, length-drop, take-append-drop}
use lib.Seq.{drop-append_seam, length-take-le}
use Rattle.chars.specs.Pick.{pick}
use Rattle.chars.specs.Utf8.{first, encode, encode_all}
use Rattle.chars.specs.Classes.{is_admitted, is_whitespace}
use Rattle.chars.specs.declared.Decoded.{Decoded}
use Rattle.chars.specs.declared.Decoded.TheVariants.{Char, Bad}
use Rattle.chars.proofs.Cases.{by-test}
use Rattle.chars.proofs.Encode.{encode_one}
use Rattle.chars.proofs.Laws.{Sound, first-sound, first-ascii, first-kept, first-end}
use Rattle.chars.proofs.Laws.Sound.{char, bad, end}
use Rattle.refusals.specs.declared.Refusal.{Refusal}
use Rattle.std.specs.Prelude.{Result, Ok, Err}
use Rattle.chunks.specs.Characters.{and_then, characters, codes_of, codes}
use Rattle.chunks.specs.Chunks.{Chunk, chunks_of}
use Rattle.chunks.specs.Check.{fault_in, or_else, fault_of}
use Rattle.chunks.specs.Format.{is_break, one_out, normal, chunk_out, chunk_flag, chunks_out, formatted}
use Rattle.chunks.specs.Upper.{upper_out, uppers, uppercase}
use Rattle.chunks.proofs.Walk.{characters-are}
use Rattle.chunks.proofs.Room.{upper_long}

-- the bytes of a code are read as that code, whatever stands behind them
pub record Spelled (c : ℕ) : Type 0 where
  pub reads : (r : List ℕ) → first (encode c ++ r) ≡ Char c (length (encode c))

-- each of the codes is
pub data Spells : List ℕ → Type 0 where
  spells_none : Spells []
  spells_more : {c : ℕ} {cs : List ℕ} → Spelled c → Spells cs → Spells (c ∷ cs)

pub spelled-ascii : (c : ℕ) → c < 0x80 → Spelled c
spelled-ascii c h = record { reads = λ r. rw (encode_one c h) (first-ascii c r h) }

spelled-read : (t : List ℕ) {code k : ℕ} → first t ≡ Char code k → k ≤ length t → encode code ≡ take k t → Spelled code
spelled-read t {code} {k} e h b =
    record {
      reads = λ r. rw b (first-kept t r e ∙ ap (λ (n : ℕ). Char code n) (sym (length-take-le k t h)));
    }

spells-append : {cs ds : List ℕ} → Spells cs → Spells ds → Spells (cs ++ ds)
spells-append spells_none d = d
spells-append (spells_more s r) d = spells_more s (spells-append r d)

-- the bytes of two lists of codes
pub encode-append : (cs ds : List ℕ) → encode_all (cs ++ ds) ≡ encode_all cs ++ encode_all ds
unfolding encode_all
encode-append [] ds = refl
encode-append (c ∷ cs) ds = rw (encode-append cs ds) (sym (append_assoc (encode c) (encode_all cs) (encode_all ds)))

no-characters : characters [] ≡ []
unfolding first and_then
no-characters = characters-are []

spelled-characters : (c : ℕ) (r : List ℕ) → Spelled c → characters (encode c ++ r) ≡ Char c (length (encode c)) ∷ characters r
unfolding and_then
spelled-characters c r s = characters-are (encode c ++ r) ∙ rw (s.reads r, drop-append_seam (encode c) r)

-- the codes of such bytes are those codes
pub spelled-codes : {cs : List ℕ} → Spells cs → codes (encode_all cs) ≡ cs
unfolding codes codes_of encode_all
spelled-codes spells_none = rw no-characters
spelled-codes (spells_more {c} {cs} s r) =
    rw (spelled-characters c (encode_all cs) s) (ap (λ (l : List ℕ). c ∷ l) (spelled-codes r))

-- a text that is the bytes of such codes
pub record Proper (t : List ℕ) : Type 0 where
  pub chars : List ℕ
  pub is : t ≡ encode_all chars
  pub spells : Spells chars

pub proper-append : {s t : List ℕ} → Proper s → Proper t → Proper (s ++ t)
proper-append p q =
    record {
      chars = p.chars ++ q.chars;
      is = rw (p.is, q.is) (sym (encode-append p.chars q.chars));
      spells = spells-append p.spells q.spells;
    }

proper-nil : Proper []
unfolding encode_all
proper-nil = record { chars = []; is = refl; spells = spells_none }

proper-one : (c : ℕ) → Spelled c → Proper (encode c)
unfolding encode_all
proper-one c s = record { chars = c ∷ []; is = sym (append-nil (encode c)); spells = spells_more s spells_none }

proper-ascii : (c : ℕ) → c < 0x80 → Proper (c ∷ [])
proper-ascii c h = subst Proper (encode_one c h) (proper-one c (spelled-ascii c h))

-- its upper case has as many bytes
uppers-long : (cs : List ℕ) → length (uppers cs) ≡ length (encode_all cs)
unfolding uppers encode_all
uppers-long [] = refl
uppers-long (c ∷ cs) =
    length-append (upper_out c) (uppers cs)
    ∙ ap (λ (n : ℕ). n + length (uppers cs)) (upper_long c)
    ∙ ap (λ (n : ℕ). length (encode c) + n) (uppers-long cs)
    ∙ sym (length-append (encode c) (encode_all cs))

pub upper-keeps : {t : List ℕ} → Proper t → length (uppercase t) ≡ length t
unfolding uppercase
upper-keeps {t} p =
    ap (λ (l : List ℕ). length (uppers (codes l))) p.is
    ∙ ap (λ (l : List ℕ). length (uppers l)) (spelled-codes p.spells)
    ∙ uppers-long p.chars
    ∙ ap length (sym p.is)

-- a Normal chunk of such codes
proper-out : (w : Bool) (c : ℕ) → Spelled c → Proper (one_out w c)
unfolding one_out
proper-out w c s =
    by-test Proper (is_break c) (λ _. by-test Proper w (λ _. proper-nil) (λ _. proper-ascii 0x20 (lit< tt))) (λ _. proper-one c s)

proper-normal : (w : Bool) {cs : List ℕ} → Spells cs → Proper (normal w cs)
unfolding normal
proper-normal w spells_none = proper-nil
proper-normal w (spells_more {c} s r) = proper-append (proper-out w c s) (proper-normal (is_whitespace c) r)

-- a text without a fault
pub faulty-not : {e : Refusal} → ◌≡◌ {A = Result (Unit {0}) Refusal} (Err e) (Ok tt) → ⊥
faulty-not h = let z : ◌≡◌ {A = ℕ} 0 1 = cc in omega arith

admitted-on : (t : Bool) {next : Result (Unit {0}) Refusal} {e : Result (Unit {0}) Refusal} → (e ≡ (Ok tt) → ⊥) → pick t next e ≡ (Ok tt) → next ≡ (Ok tt)
unfolding pick
admitted-on true n h = h
admitted-on false n h = absurd (n h)

-- a text that is the bytes of its own codes
record Read (t : List ℕ) : Type 0 where
  is : encode_all (codes t) ≡ t
  spells : Spells (codes t)

read-nil : Read []
unfolding codes codes_of encode_all
read-nil = record { is = ap (λ (l : List Decoded). encode_all (codes_of l)) no-characters; spells = subst (λ (l : List Decoded). Spells (codes_of l)) (sym no-characters) spells_none }

read_step : (t : List ℕ) (p : ℕ) → ((k q : ℕ) → 0 < k → fault_in q (characters (drop k t)) ≡ (Ok tt) → Read (drop k t)) → {d : Decoded} → first t ≡ d → Sound t d → fault_in p (characters t) ≡ (Ok tt) → Read t
unfolding fault_in codes codes_of encode_all and_then
read_step t p again e (char {k} {code} a b m f) h =
    let here : characters t ≡ Char code k ∷ characters (drop k t) = characters-are t ∙ rw e in
    let clean = admitted-on (is_admitted code) faulty-not (rw here at h) in
    let r = again k (p + k) a clean in
    record {
      is = rw here (ap (λ (l : List ℕ). encode code ++ l) r.is ∙ ap (λ (l : List ℕ). l ++ drop k t) f ∙ take-append-drop k t);
      spells = rw here (spells_more (spelled-read t e b f) r.spells);
    }
read_step t p again e bad h =
    let here : characters t ≡ Bad ∷ [] = characters-are t ∙ rw e in
    absurd (faulty-not (rw here at h))
read_step t p again e end h = subst Read (sym (first-end t e)) read-nil

clean-read : (n p : ℕ) (t : List ℕ) → length t ≤ n → fault_in p (characters t) ≡ (Ok tt) → Read t
clean-read zero p [] h e = read-nil
clean-read zero p (a ∷ t) h e = absurd (omega arith)
clean-read (suc n) p t h e =
    read_step t p (λ k q l f. clean-read n q (drop k t) (omega (arith, length-drop k t)) f) refl (first-sound t) e

-- a text without a fault is the bytes of its own codes
pub clean_is : (p : ℕ) (t : List ℕ) → fault_in p (characters t) ≡ (Ok tt) → encode_all (codes t) ≡ t
clean_is p t e = (clean-read (length t) p t (omega arith) e).is

proper-read : (t : List ℕ) → Read t → Proper t
proper-read t r = record { chars = codes t; is = sym r.is; spells = r.spells }

-- a chunk without a fault
proper-chunk : (w : Bool) (kind : ℕ) (t : List ℕ) → Read t → Proper (chunk_out w kind t)
unfolding chunk_out
proper-chunk w kind t r =
    by-test Proper (eqb kind 0) (λ _. proper-normal w r.spells)
    (λ _. by-test Proper (eqb kind 1) (λ _. proper-read t r)
    (λ _. proper-append (proper-ascii 0x24 (lit< tt)) (proper-append (proper-read t r) (proper-ascii 0x24 (lit< tt)))))

-- no fault in either part
pub else-clean : (f : Result (Unit {0}) Refusal) {g : Result (Unit {0}) Refusal} → or_else f g ≡ (Ok tt) → (f ≡ (Ok tt)) × (g ≡ (Ok tt))
unfolding or_else
else-clean (Ok tt) h = (refl, h)
else-clean (Err e) h = absurd (faulty-not h)

proper-chunks : (w : Bool) (p : ℕ) (b : List ℕ) (cs : List Chunk) → fault_of p b cs ≡ (Ok tt) → Proper (chunks_out w b cs)
unfolding chunks_out fault_of
proper-chunks w p b [] h = proper-nil
proper-chunks w p b (c ∷ cs) h =
    let t : List ℕ = take c.len b in
    let both = else-clean (fault_in p (characters t)) h in
    proper-append (proper-chunk w c.kind t (clean-read (length t) p t (omega arith) both.0))
    (proper-chunks (chunk_flag w c.kind t) (p + c.len) (drop c.len b) cs both.1)

-- the formatted text of a list without a fault
pub proper-text : (b table : List ℕ) → fault_of 0 b (chunks_of table) ≡ (Ok tt) → Proper (formatted b table)
unfolding formatted
proper-text b table h = proper-chunks false 0 b (chunks_of table) h
