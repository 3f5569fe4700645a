-- `tell_entry`: piece after piece, from the front of what is still to come.
-- Assumes nothing.
use mathlib.Core.Path.{refl, sym}
use mathlib.Core.List.{List, [], ◌∷◌, ◌++◌, append-nil}
use Prim.Native.Nat.{ℕ, ◌+◌, ◌-◌, ◌*◌, ◌≤◌}
use native.Mathlib.Omega.{arith}
use lib.ListN.{length, take, drop}
use Rattle.lists.proofs.SliceLaws.{part_slice}
use Rattle.lists.proofs.ChainLaws.{wrote-end}
use Rattle.lists.proofs.WriteLaws.{Part, part-from, part_room, part-space, part_end}
use Rattle.rules.specs.Prefix.{Counted}
use Rattle.questions.specs.Hex.{hexed}
use Rattle.questions.specs.Numbers.{decimal}
use Rattle.questions.proofs.PutLaws.{part-wrote}
use Rattle.replay_tables.specs.Told.{entry_told}
use Rattle.replay_tables.proofs.WalkLaws.{entry_length, part_length}
use Rattle.replay_tables.proofs.tables.tell_entry.Goals as goal
use Rattle.replay_tables.proofs.tables.tell_entry.Goals.{After-read_u32-count}

-- what is known once the count is read
module _ (k : After-read_u32-count) where
  abbrev bytes : List ℕ
  bytes = take (k.args.at + 8 + k.args.len - (k.args.at + 8)) (drop (k.args.at + 8) k.args.body.now)

  abbrev entry : Counted
  entry = record { bytes = bytes; count = k.read_u32-count.result }

  told-length : length (entry_told entry) ≤ 2 * (8 + k.args.len)
  told-length =
      let b = part_length (k.args.at + 8) (k.args.at + 8 + k.args.len) k.args.body.now in
      entry_length entry k.args.len (omega arith) (omega arith)

  begun : Part (take k.args.to k.args.out.now ++ entry_told entry) (entry_told entry) k.args.out.now k.args.out.now k.args.to
  begun = part-from _ _ _ (omega (arith, told-length, k.requires.1))

pub put_number-b-requires : goal.put_number-b-requires
unfolding entry_told
put_number-b-requires c = let read_u32 = (goal.at.put_number-b-requires c).After-read_u32-count in
    part-space (decimal (entry read_u32).count) (58 ∷ hexed (bytes read_u32)) refl (part-wrote (32 ∷ []) refl c.put_byte-a.ensures (begun read_u32))

pub put_byte-c-requires : goal.put_byte-c-requires
unfolding entry_told
put_byte-c-requires c = let read_u32 = (goal.at.put_byte-c-requires c).After-read_u32-count in
    part_room refl (part-wrote (decimal (entry read_u32).count) refl c.put_number-b.ensures (part-wrote (32 ∷ []) refl c.put_byte-a.ensures (begun read_u32)))

pub put_hex-requires : goal.put_hex-requires
unfolding entry_told
put_hex-requires c = let read_u32 = (goal.at.put_hex-requires c).After-read_u32-count in
    let p = part-wrote (decimal (entry read_u32).count) refl c.put_number-b.ensures (part-wrote (32 ∷ []) refl c.put_byte-a.ensures (begun read_u32)) in
    part-space (hexed (bytes read_u32)) [] (sym (append-nil _)) (part-wrote (58 ∷ []) refl c.put_byte-c.ensures p)

pub returns : goal.returns
unfolding entry_told
returns c = let read_u32 = (goal.at.returns c).After-read_u32-count in
    let p = part-wrote (decimal (entry read_u32).count) refl c.put_number-b.ensures (part-wrote (32 ∷ []) refl c.put_byte-a.ensures (begun read_u32)) in
    let q = part-wrote (58 ∷ []) refl c.put_byte-c.ensures p in
    let w = part_end refl (part-wrote (hexed (bytes read_u32)) (sym (append-nil _)) c.put_hex.ensures q) in
    let e = wrote-end c.args.to (entry_told (entry read_u32)) (omega arith) w in record { told = rw (← c.read_u32-count.ensures, ← part_slice (c.args.at + 8) (c.args.at + 8 + c.args.len) c.args.body.now) w; short = omega (arith, e, told-length read_u32) }
