-- Chains: what AND and OR have joined so far, kept by each turn of a level's loop. A tree stands for what is read; the code has its value only.
-- Assumes nothing.
use mathlib.Core.Path.{◌≡◌, refl, sym, ap, ◌∙◌}
use Prim.Native.Nat.{ℕ, ◌+◌, ◌≤◌, ◌<◌}
use mathlib.Core.Bool.{Bool, true, false, not, ◌&&◌, ◌||◌}
use mathlib.Core.List.{List, [], ◌∷◌, ◌++◌, append_assoc}
use mathlib.Core.Option.{Option, none, some}
use native.Mathlib.Omega.{arith}
use lib.ListN.{length, drop}
use Rattle.expression.specs.Reading.{Tree, and_of, or_of, Level, fresh, whole, anded, ored, Ctl, refused, next, stop, follow, run, at_done, at_ended}
use Rattle.expression.specs.Writing.{is_or, wrap, spell, satisfied}
use Rattle.expression_bytes.specs.Front.{head_is}
use Rattle.expression_output.specs.Output.{Put}
use Rattle.expression_output.proofs.OutputLaws.{put_then, overlay-length, overlay-none, capped_fits}
use Rattle.expression_parts.specs.Parts.{no_expression}
use Rattle.expression_joints.specs.declared.Value.{Value}
use Rattle.expression_joints.specs.Joints.{Lays, and_text, or_text}
use Rattle.expression_joints.proofs.JointLaws.{Onward as Goes_on}
use Rattle.std.specs.Prelude.{Result, Ok, Err}
use Rattle.rules.specs.Told.{refusal_number}
use Rattle.expression.specs.declared.Refused.{Refused}
use Rattle.expression_levels.specs.Levels.{only_any, only_fresh, Valued, Onward, Told, told, no}

-- ---- where no blank and no AND stands, what AND joins is one tree; and where no OR stands too, a level is
pub and-done : (s : List ℕ) (t : Tree) (any all : Option Tree) (fs : List Level) (p : ℕ) → head_is 32 s ≡ false → head_is 65 s ≡ false → run s (Ctl.done (and_of all t)) (only_any any) fs p ≡ run s (Ctl.done t) (record { any = any; all = all }) fs p
unfolding head_is run next stop follow at_done at_ended whole ored and_of
and-done [] t any all fs p e a = refl
and-done (x ∷ xs) t any all fs p e a = rw (e, a)

pub or-done : (s : List ℕ) (t : Tree) (any : Option Tree) (fs : List Level) (p : ℕ) → head_is 32 s ≡ false → head_is 65 s ≡ false → head_is 79 s ≡ false → run s (Ctl.done (or_of any t)) fresh fs p ≡ run s (Ctl.done t) (only_any any) fs p
unfolding head_is run next stop follow at_done at_ended whole or_of and_of fresh
or-done [] t any fs p e a o = refl
or-done (x ∷ xs) t any fs p e a o = rw (e, a, o)

-- ---- what a chain has written and told so far
unfoldable pub is_none : Option Tree → Bool
is_none none = true
is_none (some t) = false

unfoldable pub and_so_far : Option Tree → List ℕ
and_so_far none = []
and_so_far (some t) = wrap (is_or t) (spell t) ++ and_text

unfoldable pub or_so_far : Option Tree → List ℕ
or_so_far none = []
or_so_far (some t) = spell t ++ or_text

unfoldable pub all_of : List ℕ → Option Tree → Bool
all_of list none = true
all_of list (some t) = satisfied list t

unfoldable pub any_of : List ℕ → Option Tree → Bool
any_of list none = false
any_of list (some t) = satisfied list t

-- one tree more
and-more : (all : Option Tree) (t : Tree) → and_so_far all ++ (wrap (is_or t) (spell t) ++ and_text) ≡ and_so_far (some (and_of all t))
unfolding and_so_far and_of spell is_or wrap
and-more none t = refl
and-more (some a) t =
    append_assoc (wrap (is_or a) (spell a)) and_text (wrap (is_or t) (spell t) ++ and_text) ∙ sym (append_assoc (wrap (is_or a) (spell a)) (and_text ++ wrap (is_or t) (spell t)) and_text)

and_last : (all : Option Tree) (t : Tree) → and_so_far all ++ wrap (not (is_none all) && is_or t) (spell t) ≡ spell (and_of all t)
unfolding and_so_far and_of spell is_or wrap is_none
and_last none t = refl
and_last (some a) t = append_assoc (wrap (is_or a) (spell a)) and_text (wrap (is_or t) (spell t))

or-more : (any : Option Tree) (t : Tree) → or_so_far any ++ (spell t ++ or_text) ≡ or_so_far (some (or_of any t))
unfolding or_so_far or_of spell
or-more none t = refl
or-more (some a) t = append_assoc (spell a) or_text (spell t ++ or_text) ∙ sym (append_assoc (spell a) (or_text ++ spell t) or_text)

or-last : (any : Option Tree) (t : Tree) → or_so_far any ++ spell t ≡ spell (or_of any t)
unfolding or_so_far or_of spell
or-last none t = refl
or-last (some a) t = append_assoc (spell a) or_text (spell t)

and-holds : (list : List ℕ) (all : Option Tree) (t : Tree) → (all_of list all && satisfied list t) ≡ satisfied list (and_of all t)
unfolding all_of and_of satisfied
and-holds list none t = refl
and-holds list (some a) t = refl

or-holds : (list : List ℕ) (any : Option Tree) (t : Tree) → (any_of list any || satisfied list t) ≡ satisfied list (or_of any t)
unfolding any_of or_of satisfied
or-holds list none t = refl
or-holds list (some a) t = refl

and-or : (all : Option Tree) (t : Tree) → (is_none all && is_or t) ≡ is_or (and_of all t)
unfolding is_none and_of is_or
and-or none t = refl
and-or (some a) t = refl

or-or : (any : Option Tree) (t : Tree) → (not (is_none any) || is_or t) ≡ is_or (or_of any t)
unfolding is_none or_of is_or
or-or none t = refl
or-or (some a) t = refl

-- ---- AND's loop: `so` is what it has joined
pub record Anding (list text s : List ℕ) (at depth o from : ℕ) (all alone : Bool) (end : ℕ) (d : List ℕ) : Type 0 where
  pub so : Option Tree
  pub same : (any : Option Tree) (fs : List Level) → length fs ≡ depth → run (drop from text) Ctl.want (record { any = any; all = so }) fs from ≡ run (drop at text) Ctl.want (only_any any) fs at
  pub low : at ≤ from
  pub high : from ≤ length text
  pub holds : all ≡ all_of list so
  pub lone : alone ≡ is_none so
  pub put : Put o (and_so_far so) s d end

put-none : (o : ℕ) (s : List ℕ) → o < 18446744073709551616 → Put o [] s s o
put-none o s h = (sym (overlay-none o s), let q : o + 0 ≡ o = omega arith in rw q (sym (capped_fits o h)))

pub put-length : (o : ℕ) (bs s : List ℕ) {d : List ℕ} {r : ℕ} → Put o bs s d r → length d ≡ length s
put-length o bs s p = ap length p.0 ∙ overlay-length o bs s

pub anding_start : (list text s : List ℕ) (at depth o : ℕ) → at ≤ length text → o < 18446744073709551616 → Anding list text s at depth o at true true o s
unfolding all_of is_none and_so_far
anding_start list text s at depth o h k =
    record { so = none; same = λ any fs e. refl; low = omega arith; high = h; holds = refl; lone = refl; put = put-none o s k }

-- ---- OR's loop
pub record Oring (list text s : List ℕ) (at depth o from : ℕ) (any several : Bool) (end : ℕ) (d : List ℕ) : Type 0 where
  pub so : Option Tree
  pub same : (fs : List Level) → length fs ≡ depth → run (drop from text) Ctl.want (only_any so) fs from ≡ run (drop at text) Ctl.want fresh fs at
  pub low : at ≤ from
  pub high : from ≤ length text
  pub holds : any ≡ any_of list so
  pub more : several ≡ not (is_none so)
  pub put : Put o (or_so_far so) s d end

pub oring_start : (list text s : List ℕ) (at depth o : ℕ) → at ≤ length text → o < 18446744073709551616 → Oring list text s at depth o at false false o s
unfolding any_of is_none or_so_far fresh
oring_start list text s at depth o h k =
    record { so = none; same = λ fs e. refl; low = omega arith; high = h; holds = refl; more = refl; put = put-none o s k }

-- ---- what was read behind the chain, of an answer that is known
pub record Tree-read {X : Type 0} (begins : X → Level) (list text : List ℕ) (at depth : ℕ) (ys : List ℕ) (s : List ℕ) (o : ℕ) (v : Value) (d : List ℕ) : Type 0 where
  pub tree : Tree
  pub same : (x : X) (fs : List Level) → length fs ≡ depth → run (drop v.next text) (Ctl.done tree) (begins x) fs v.next ≡ run (drop at text) Ctl.want (begins x) fs at
  pub on : Onward text at ys v.next
  pub value : Valued list s o tree v d

pub record Tree-none {X : Type 0} (begins : X → Level) (text : List ℕ) (at depth : ℕ) (s d : List ℕ) (k p : ℕ) : Type 0 where
  pub same : (x : X) (fs : List Level) → length fs ≡ depth → refused k p ≡ run (drop at text) Ctl.want (begins x) fs at
  pub kept : length d ≡ length s

module _ {X : Type 0} {begins : X → Level} {list text : List ℕ} {at depth : ℕ} {ys s : List ℕ} {o : ℕ} {d : List ℕ} where
  read_of : {v : Value} → Told begins list text at depth ys s o (Ok v) d → Tree-read begins list text at depth ys s o v d
  read_of (told t e i w) = record { tree = t; same = e; on = i; value = w }

  pub was_read : {r : Result Value Refused} {v : Value} → r ≡ Ok v → Told begins list text at depth ys s o r d → Tree-read begins list text at depth ys s o v d
  was_read e w = read_of (rw e at w)

  none_of : {r : Refused} → Told begins list text at depth ys s o (Err r) d → Tree-none begins text at depth s d (refusal_number r.refusal) r.place
  none_of (no e l) = record { same = e; kept = l }

  pub was_none : {q : Result Value Refused} {r : Refused} → q ≡ Err r → Told begins list text at depth ys s o q d → Tree-none begins text at depth s d (refusal_number r.refusal) r.place
  was_none e w = none_of (rw e at w)

  -- the output's length is kept
  pub told-kept : {r : Result Value Refused} → Told begins list text at depth ys s o r d → length d ≡ length s
  told-kept (told t e i w) = put-length o (spell t) s w.put
  told-kept (no e k) = k

-- ---- the joint behind it breaks off
abbrev pub Breaks-off : List ℕ → ℕ → List ℕ → List ℕ → ℕ → Type 0
Breaks-off text at s d p = ((t : Tree) (l : Level) (fs : List Level) → refused 13 p ≡ run (drop at text) (Ctl.done t) l fs at) × (length d ≡ length s)

-- ---- a turn of AND's loop
module _ {list text s : List ℕ} {at depth o from : ℕ} {all alone : Bool} {end : ℕ} {d : List ℕ} (small : length s < 18446744073709551616) (a : Anding list text s at depth o from all alone end d) where
  pub anding_no : {r : Refused} {e : List ℕ} → Tree-none (λ l. l) text from depth d e (refusal_number r.refusal) r.place → Told only_any list text at depth (32 ∷ 65 ∷ []) s o (Err r) e
  anding_no n = no (λ any fs h. n.same (record { any = any; all = a.so }) fs h ∙ a.same any fs h) (n.kept ∙ put-length o (and_so_far a.so) s a.put)

  module _ {v : Value} {e : List ℕ} (w : Tree-read (λ l. l) list text from depth (32 ∷ []) d end v e) where
    behind : (any : Option Tree) (fs : List Level) → length fs ≡ depth → run (drop v.next text) (Ctl.done w.tree) (record { any = any; all = a.so }) fs v.next ≡ run (drop at text) Ctl.want (only_any any) fs at
    behind any fs h = w.same (record { any = any; all = a.so }) fs h ∙ a.same any fs h

    pub anding_off : {p : ℕ} {f : List ℕ} → Breaks-off text v.next e f p → Told only_any list text at depth (32 ∷ 65 ∷ []) s o (Err (no_expression p)) f
    anding_off b =
        no (λ any fs h. b.0 w.tree (record { any = any; all = a.so }) fs ∙ behind any fs h)
        (b.1 ∙ put-length end (spell w.tree) d w.value.put ∙ put-length o (and_so_far a.so) s a.put)

    pub anding_on : {n r : ℕ} {f : List ℕ} {both : Bool} → both ≡ (all && v.holds) → Goes_on text v.next anded (λ bs. wrap v.or bs ++ and_text) end v.end e f n r → Anding list text s at depth o n both false r f
    unfolding anded is_none all_of
    anding_on {r = r} {f = f} h g =
        let laid : Put end (wrap (is_or w.tree) (spell w.tree) ++ and_text) d f r = rw (← w.value.or) (g.lays (spell w.tree) d w.value.put.0 w.value.put.1) in
        record {
          so = some (and_of a.so w.tree);
          same = λ any fs i. g.same w.tree (record { any = any; all = a.so }) fs ∙ behind any fs i;
          low = (let x = a.low in let y = w.on.low in let z = g.low in omega arith);
          high = g.high;
          holds = h ∙ rw (a.holds, w.value.holds) (and-holds list a.so w.tree);
          lone = refl;
          put = rw (← and-more a.so w.tree) (put_then o (and_so_far a.so) (wrap (is_or w.tree) (spell w.tree) ++ and_text) s small a.put laid);
        }

    pub anding_done : head_is 65 (drop v.next text) ≡ false → {r : Value} {f : List ℕ} → r.next ≡ v.next → r.holds ≡ (all && v.holds) → r.or ≡ (alone && v.or) → Lays (λ bs. wrap (not alone && v.or) bs) end v.end e f r.end → Told only_any list text at depth (32 ∷ 65 ∷ []) s o (Ok r) f
    anding_done stops {r = r} {f = f} n h k lays =
        let laid : Put end (wrap (not (is_none a.so) && is_or w.tree) (spell w.tree)) d f r.end = rw (← a.lone, ← w.value.or) (lays (spell w.tree) d w.value.put.0 w.value.put.1) in
        told {v = r} {d = f} (and_of a.so w.tree)
        (λ any fs i. rw n (and-done (drop v.next text) w.tree any a.so fs v.next w.on.stops.0 stops ∙ behind any fs i))
        (rw n record { low = (let x = a.low in let y = w.on.low in omega arith); high = w.on.high; stops = (w.on.stops.0, (stops, tt)) })
        record {
          holds = h ∙ rw (a.holds, w.value.holds) (and-holds list a.so w.tree);
          or = k ∙ rw (a.lone, w.value.or) (and-or a.so w.tree);
          put = rw (← and_last a.so w.tree) (put_then o (and_so_far a.so) (wrap (not (is_none a.so) && is_or w.tree) (spell w.tree)) s small a.put laid);
        }

-- ---- a turn of OR's loop
module _ {list text s : List ℕ} {at depth o from : ℕ} {any several : Bool} {end : ℕ} {d : List ℕ} (small : length s < 18446744073709551616) (a : Oring list text s at depth o from any several end d) where
  pub oring_no : {r : Refused} {e : List ℕ} → Tree-none only_any text from depth d e (refusal_number r.refusal) r.place → Told only_fresh list text at depth (32 ∷ 65 ∷ 79 ∷ []) s o (Err r) e
  oring_no n = no (λ u fs h. n.same a.so fs h ∙ a.same fs h) (n.kept ∙ put-length o (or_so_far a.so) s a.put)

  module _ {v : Value} {e : List ℕ} (w : Tree-read only_any list text from depth (32 ∷ 65 ∷ []) d end v e) where
    beyond : (fs : List Level) → length fs ≡ depth → run (drop v.next text) (Ctl.done w.tree) (only_any a.so) fs v.next ≡ run (drop at text) Ctl.want fresh fs at
    beyond fs h = w.same a.so fs h ∙ a.same fs h

    pub oring_off : {p : ℕ} {f : List ℕ} → Breaks-off text v.next e f p → Told only_fresh list text at depth (32 ∷ 65 ∷ 79 ∷ []) s o (Err (no_expression p)) f
    oring_off b =
        no (λ u fs h. b.0 w.tree (only_any a.so) fs ∙ beyond fs h)
        (b.1 ∙ put-length end (spell w.tree) d w.value.put ∙ put-length o (or_so_far a.so) s a.put)

    pub oring_on : {n r : ℕ} {f : List ℕ} {either : Bool} → either ≡ (any || v.holds) → Goes_on text v.next ored (λ bs. bs ++ or_text) end v.end e f n r → Oring list text s at depth o n either true r f
    unfolding ored whole and_of is_none any_of
    oring_on h g =
        record {
          so = some (or_of a.so w.tree);
          same = λ fs i. g.same w.tree (only_any a.so) fs ∙ beyond fs i;
          low = (let x = a.low in let y = w.on.low in let z = g.low in omega arith);
          high = g.high;
          holds = h ∙ rw (a.holds, w.value.holds) (or-holds list a.so w.tree);
          more = refl;
          put = rw (← or-more a.so w.tree) (put_then o (or_so_far a.so) (spell w.tree ++ or_text) s small a.put (g.lays (spell w.tree) d w.value.put.0 w.value.put.1));
        }

    pub oring_done : head_is 79 (drop v.next text) ≡ false → {r : Value} → r.next ≡ v.next → r.holds ≡ (any || v.holds) → r.or ≡ (several || v.or) → r.end ≡ v.end → Told only_fresh list text at depth (32 ∷ 65 ∷ 79 ∷ []) s o (Ok r) e
    oring_done stops {r = r} n h k i =
        told {v = r} {d = e} (or_of a.so w.tree)
        (λ u fs j. rw n (or-done (drop v.next text) w.tree a.so fs v.next w.on.stops.0 w.on.stops.1.0 stops ∙ beyond fs j))
        (rw n record { low = (let x = a.low in let y = w.on.low in omega arith); high = w.on.high; stops = (w.on.stops.0, (w.on.stops.1.0, (stops, tt))) })
        record {
          holds = h ∙ rw (a.holds, w.value.holds) (or-holds list a.so w.tree);
          or = k ∙ rw (a.more, w.value.or) (or-or a.so w.tree);
          put = rw (← or-last a.so w.tree, i) (put_then o (or_so_far a.so) (spell w.tree) s small a.put w.value.put);
        }
