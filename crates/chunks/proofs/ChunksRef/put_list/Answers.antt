use Rattle.chunks.specs.Answer.{room_of}
use Rattle.chunks.proofs.Room.{chunk-short}
use Rattle.chunks.proofs.Tables.{chunks-over, chunks-at}
use Rattle.chunks.proofs.Fill.{fill_start, fill-put, fill_end}
use Rattle.chunks.specs.Format.{chunks_out, chunk_out, formatted}
use Rattle.chunks.specs.Chunks.{chunks_of}
use Rattle.chunks.proofs.Turn.{text-length, standing-start, whole, standing_on, sums, fault-turn, out-turn, Standing}
use Rattle.chunks.proofs.Proper.{clean_is, else-clean}
use Rattle.std.specs.Prelude.{Ok}
use Rattle.chunks.specs.Characters.{characters}
use Rattle.chunks.specs.Check.{fault_in, fault_of}
use mathlib.Core.List.{List}
use lib.ListN.{length, take, drop, get_or}
use Prim.Native.Nat.{◌+◌, ◌-◌, ◌*◌, ◌<◌, ℕ}
use native.Mathlib.Omega.{arith}
use mathlib.Core.Path.{◌≡◌, ap, ◌∙◌}
use Rattle.chunks.proofs.ChunksRef.put_list.Goals as goal
use Rattle.chunks.proofs.ChunksRef.put_list.Goals.{In-loop-k}

-- in a turn
module _ (c : In-loop-k) where
  abbrev bytes : List ℕ
  bytes = c.args.self.bytes.now

  abbrev table : List ℕ
  table = c.args.self.table.now

  abbrev at : ℕ
  at = c.loop-k.at

  abbrev k : ℕ
  k = 4 * c.loop-k.k

  abbrev st : Standing bytes table at k
  st = c.loop-k.invariant.stands

  more : k < length table
  more = omega arith

  -- the chunk's text, as the slice that is lent has it
  abbrev text : List ℕ
  text = take (at + get_or table (k + 1) 0 - at) (drop at bytes)

  -- neither the chunk nor those behind it have a fault
  faultless : (fault_in at (characters text) ≡ (Ok tt)) × (fault_of (at + get_or table (k + 1) 0) (drop (at + get_or table (k + 1) 0) bytes) (chunks_of (drop (k + 4) table)) ≡ (Ok tt))
  faultless = else-clean (fault_in at (characters text)) (fault-turn st more ∙ c.loop-k.invariant.clean)

pub loop-k-init : goal.loop-k-init
unfolding formatted room_of
loop-k-init c = record { fill = fill_start _ _ _; stands = standing-start _ _ c.requires.table_value; clean = c.requires.table_value_2; room = omega (arith, c.requires.table_in_bounds) }

pub overflow_add-at : goal.overflow_add-at
overflow_add-at c = let q = (goal.at.overflow_add-at c).In-loop-k in omega (arith, sums (st q) (more q))

pub slice_bounds-put_chunk-end : goal.slice_bounds-put_chunk-end
slice_bounds-put_chunk-end c = let q = (goal.at.slice_bounds-put_chunk-end c).In-loop-k in omega (arith, sums (st q) (more q))

pub put_chunk-p-requires : goal.put_chunk-p-requires
put_chunk-p-requires c =
    let q = (goal.at.put_chunk-p-requires c).In-loop-k in
    let n = text-length (st q) (more q) in
    let m = ap length (chunks-at (table q) (k q) (whole (st q) (more q))) in
    record { t_in_bounds = omega (arith, n, m, sums (st q) (more q), c.loop-k.invariant.room); t_value = clean_is (at q) (text q) (faultless q).0 }

pub loop-k-preserved : goal.loop-k-preserved
loop-k-preserved c =
    let q = (goal.at.loop-k-preserved c).In-loop-k in
    let t = more q in
    let v = c.loop-k.invariant in
    let w = c.loop-k.w in
    let e = c.put_chunk-p.ensures in
    let next : 4 * (c.loop-k.k + 1) ≡ 4 * c.loop-k.k + 4 = omega arith in
    rw next (
    record {
      fill = rw e.1 (fill-put (chunk_out w (get_or (table q) (k q) 0) (text q)) (rw (out-turn (st q) t w) at v.fill) e.0 e.2);
      stands = standing_on (st q) t;
      clean = (faultless q).1;
      room =
          omega (
            arith,
            sums (st q) t,
            text-length (st q) t,
            ap length (chunks-at (table q) (k q) (whole (st q) t)),
            chunk-short (text q) w (get_or (table q) (k q) 0),
            v.room,
            e.0,
            c.put_chunk-p.auto.buf,
          );
    }
    )

pub returns : goal.returns
unfolding chunks_out
returns c =
    let v = c.loop-k.invariant in
    let f = rw (chunks-over c.args.self.table.now (4 * c.loop-k.k) (omega (arith, v.stands.fours))) at v.fill in
    (omega (arith, fill_end f), f.same, omega (arith, v.room, f.long))
