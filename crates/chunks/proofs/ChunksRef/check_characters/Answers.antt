use Rattle.chars.specs.Utf8.{decode_at}
use Rattle.chars.specs.declared.Decoded.TheVariants.{Char}
use Rattle.chunks.specs.Check.{fault_of, or_else}
use Rattle.chunks.proofs.Tables.{chunks-over}
use Rattle.chunks.proofs.Turn.{standing_on, text-length, fault-turn, standing-start, sums, Standing}
use Rattle.chunks.proofs.Faults.{fault-high, fault-bad, fault-end, fault-on}
use mathlib.Core.List.{List}
use lib.ListN.{length, take, drop, get_or}
use Prim.Native.Nat.{◌+◌, ◌-◌, ℕ, ◌*◌, ◌<◌}
use native.Mathlib.Omega.{arith}
use mathlib.Core.Path.{sym, ◌∙◌, refl, ◌≡◌}
use Rattle.chars.proofs.Laws.{OfChar, found}
use Rattle.chunks.proofs.ChunksRef.check_characters.Goals as goal
use Rattle.chunks.proofs.ChunksRef.check_characters.Goals.{In-Char, In-chunks}

-- in a turn over the chunks
module _ (c : In-chunks) where
  abbrev bytes : List ℕ
  bytes = c.args.self.bytes.now

  abbrev table : List ℕ
  table = c.args.self.table.now

  abbrev at : ℕ
  at = c.chunks.at

  abbrev k : ℕ
  k = 4 * c.chunks.k

  abbrev st : Standing bytes table at k
  st = c.chunks.invariant.stands

  more : k < length table
  more = omega arith

  abbrev text : List ℕ
  text = take (at + get_or table (k + 1) 0 - at) (drop at bytes)

-- where a character was found
module _ (c : In-Char) where
  abbrev i : ℕ
  i = c.characters.i

  abbrev within : List ℕ
  within = take (c.chunks.at + get_or c.args.self.table.now (4 * c.chunks.k + 1) 0 - c.chunks.at) (drop c.chunks.at c.args.self.bytes.now)

  is-char : decode_at within i ≡ Char c.in-Char.code c.in-Char.n
  is-char = sym c.decode_at.ensures ∙ c.in-Char.is

  sees : OfChar within i c.in-Char.code c.in-Char.n
  sees = found within i is-char

pub chunks-init : goal.chunks-init
chunks-init c = record { none = refl; same = refl; stands = standing-start _ _ c.requires }

pub overflow_add-t : goal.overflow_add-t
overflow_add-t c = let q = (goal.at.overflow_add-t c).In-chunks in omega (arith, sums (st q) (more q))

pub slice_bounds-t-end : goal.slice_bounds-t-end
slice_bounds-t-end c = let q = (goal.at.slice_bounds-t-end c).In-chunks in omega (arith, sums (st q) (more q))

pub overflow_add-i : goal.overflow_add-i
overflow_add-i c = let q = (goal.at.overflow_add-i c).In-chunks in omega (arith, (sees (goal.at.overflow_add-i c).In-Char).inside, (sees (goal.at.overflow_add-i c).In-Char).some, text-length (st q) (more q), sums (st q) (more q))

pub characters-smaller : goal.characters-smaller
characters-smaller c = let q = (goal.at.characters-smaller c).In-chunks in omega (arith, (sees (goal.at.characters-smaller c).In-Char).inside, (sees (goal.at.characters-smaller c).In-Char).some, text-length (st q) (more q), sums (st q) (more q))

pub characters-preserved : goal.characters-preserved
characters-preserved c =
    let q = (goal.at.characters-preserved c).In-chunks in
    let v = c.characters.invariant in
    record {
      none = v.none;
      same = sym (fault-on (text q) (at q) (i (goal.at.characters-preserved c).In-Char) (is-char (goal.at.characters-preserved c).In-Char) (sym c.is_admitted.ensures ∙ c.if-is_admitted.true)) ∙ v.same;
      inside = omega (arith, (sees (goal.at.characters-preserved c).In-Char).inside, (sees (goal.at.characters-preserved c).In-Char).some);
    }

pub faulty-found-requires : goal.faulty-found-requires
faulty-found-requires c = let q = (goal.at.faulty-found-requires c).In-chunks in omega (arith, (sees (goal.at.faulty-found-requires c).In-Char).inside, (sees (goal.at.faulty-found-requires c).In-Char).some, text-length (st q) (more q), sums (st q) (more q))

pub chunks-preserved : goal.chunks-preserved
unfolding or_else
chunks-preserved c =
    let q = (goal.at.chunks-preserved c).In-chunks in
    let v = c.characters.invariant in
    let clean = sym v.same ∙ fault-end (text q) (at q) _ (sym c.decode_at.ensures ∙ c.in-End.is) in
    let next : 4 * (c.chunks.k + 1) ≡ 4 * c.chunks.k + 4 = omega arith in
    rw next (
    record {
      none = v.none;
      same = rw clean at (fault-turn (st q) (more q)) ∙ c.chunks.invariant.same;
      stands = standing_on (st q) (more q);
    }
    )

pub returns-after-chunks : goal.returns-after-chunks
unfolding fault_of
returns-after-chunks c =
    let v = c.chunks.invariant in
    v.none ∙ rw (chunks-over c.args.self.table.now (4 * c.chunks.k) (omega (arith, v.stands.fours))) at v.same

pub returns-else-is_admitted : goal.returns-else-is_admitted
unfolding or_else
returns-else-is_admitted c =
    let q = (goal.at.returns-else-is_admitted c).In-chunks in
    let high = sym c.characters.invariant.same ∙ fault-high (text q) (at q) (i (goal.at.returns-else-is_admitted c).In-Char) (is-char (goal.at.returns-else-is_admitted c).In-Char) (sym c.is_admitted.ensures ∙ c.if-is_admitted.false) in
    c.faulty-found.ensures ∙ rw high at (fault-turn (st q) (more q)) ∙ q.chunks.invariant.same

pub returns-in-Bad : goal.returns-in-Bad
unfolding or_else
returns-in-Bad c =
    let q = (goal.at.returns-in-Bad c).In-chunks in
    let ill = sym c.characters.invariant.same ∙ fault-bad (text q) (at q) _ (sym c.decode_at.ensures ∙ c.in-Bad.is) in
    c.faulty-found-in-Bad.ensures ∙ rw ill at (fault-turn (st q) (more q)) ∙ c.chunks.invariant.same
