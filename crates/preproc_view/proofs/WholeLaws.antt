-- There is room for a view's lines, joined; and the whole of the passes on a view.
-- Assumes nothing.
use mathlib.Core.Path.{◌≡◌, refl, sym, ap, ◌∙◌}
use Rattle.std.proofs.Common.{Option, None, Some}
use mathlib.Core.List.{List, [], ◌∷◌, ◌++◌, map}
use Prim.Native.Nat.{ℕ, ◌+◌, ◌-◌, ◌*◌, ◌≤◌, zero-le}
use native.Mathlib.Omega.{arith}
use lib.ListN.{length, take, drop, length-drop}
use lib.Seq.{slice, take_at, length-take-le}
use Rattle.lists.proofs.SliceLaws.{part-rest}
use Rattle.rules.specs.declared.View.{View}
use Rattle.rules.specs.Bytes.{join}
use Rattle.rules.specs.Points.{encoded}
use Rattle.rules.specs.Prefix.{strip, without_prefix}
use Rattle.rules.specs.Passes.{passes, aggressive}
use Rattle.rules.proofs.GrowthLaws.{encoded-more, join-size, without_prefix-size}
use Rattle.slices.specs.declared.ends.ByteSpan.{ByteSpan}
use Rattle.preproc_table.specs.Entries.{view_start}
use Rattle.preproc_join.specs.Joins.{LiesBelow, left, view_lines, Below, Joined}
use Rattle.preproc_view.specs.Rows.{StandsAt}
use Rattle.preproc_view.specs.Whole.{view_at, Ready, StripsAs, ViewProcessed}
use Rattle.preproc_view.proofs.RowLaws.{stands-lent}

-- ---- what pass 1 strips lies below the view, and is what is left out of each line
module _ (area : List ℕ) (n : ℕ) (ls : List (List ℕ)) where
  strips-below : (p : Option ByteSpan) → StripsAs area n ls p → LiesBelow p (view_start n)
  strips-below None h = tt
  strips-below (Some p) h = (h.0, h.1)

  strips-lines : (p : Option ByteSpan) → StripsAs area n ls p → without_prefix ls ≡ map (left area p) ls
  unfolding left
  strips-lines None h = h ∙ sym (each ls)
    where
      each : (ms : List (List ℕ)) → map (left area None) ms ≡ ms
      each [] = refl
      each (m ∷ ms) = ap (λ (r : List (List ℕ)). m ∷ r) (each ms)
  strips-lines (Some p) h = h.2

-- ---- a view of the lines of a text
module _ {class area table : List ℕ} {n : ℕ} {v : View} (p : Option ByteSpan) (q : Ready class area table n v) (c : StripsAs area n (view_at area table v) p) where
  stripped : without_prefix (view_at area table v) ≡ map (left area p) (view_at area table v)
  stripped = strips-lines area n (view_at area table v) p c

  pub ready-below : Below class table v.end p (view_start n)
  ready-below =
      record { classes = q.classes; entries = q.entries; order = q.apart.order; below = q.apart.high; prefix = strips-below area n (view_at area table v) p c }

  -- joined, they are no longer than their own lines
  joined-size : length (encoded (join (view_lines area table v.start v.end p))) ≤ 3 * n + 3
  unfolding view_lines
  joined-size =
      let ls = view_at area table v in
      omega (arith, ap (λ (ms : List (List ℕ)). length (encoded (join ms))) (sym stripped), join-size (without_prefix ls), without_prefix-size ls, q.bytes)

  pub ready-room : view_start n + length (join (view_lines area table v.start v.end p)) ≤ length area
  ready-room = omega (arith, q.room, joined-size, encoded-more (join (view_lines area table v.start v.end p)))

  -- and so there is room for them as UTF-8 in the part that is lent
  pub ready-encoded : {to : ℕ} → to ≡ view_start n → {len : ℕ} (b : List ℕ) → Joined (join (view_lines area table v.start v.end p)) area to len b →
      length b ≡ length area → length (encoded (take len (take (length b - to) (drop to b)))) ≤ length (take (length b - to) (drop to b))
  ready-encoded {to} t {len} b j long =
      omega (
        arith,
        ap (λ (l : List ℕ). length (encoded (take len l))) (part-rest to b),
        ap (λ (l : List ℕ). length (encoded l)) j.there.bytes,
        joined-size,
        q.room,
        ap length (part-rest to b),
        length-drop to b,
      )

  -- joined from where a view begins, and then the passes on the part that is lent from there on
  pub all-passes : {to : ℕ} → to ≡ view_start n → {len : ℕ} (b d e : List ℕ) {r : ByteSpan} →
      Joined (join (view_lines area table v.start v.end p)) area to len b → to ≤ length b →
      StandsAt (encoded (passes (take len (take (length b - to) (drop to b))))) d r →
      ViewProcessed (view_at area table v) n area (record { start = to + r.start; end = to + r.end }) (take to b ++ (d ++ e))
  unfolding view_lines aggressive
  all-passes {to} t {len} b d e {r} j h s =
      let o : passes (take len (take (length b - to) (drop to b))) ≡ passes (join (without_prefix (view_at area table v))) =
      ap (λ (l : List ℕ). passes (take len l)) (part-rest to b) ∙ ap passes (j.there.bytes ∙ ap join (sym stripped)) in
      record {
        stands = stands-lent to b d e h (rw o at s);
        behind = omega arith;
        below = rw (← t) (take_at (take to b) (d ++ e) to (length-take-le to b h) ∙ j.below);
      }
