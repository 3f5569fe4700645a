-- The walk over the stored texts of a sound book, record by record.
--     before-first      it starts before text 0
--     before-next       past a record that is no stored text
--     found_as          at one that is
--     not_done, not_broken     while a text is to come, the records neither end nor break off
-- Assumes nothing.
use mathlib.Core.Path.{◌≡◌, refl, sym, ap, ◌∙◌, subst}
use mathlib.Core.Bool.{Bool, true, false, not, ◌&&◌, ◌||◌, cond, false≢true}
use mathlib.Core.List.{List, [], ◌∷◌, ◌++◌}
use mathlib.Core.Option.{Option, none, some}
use Prim.Native.Nat.{ℕ, suc, ◌+◌, ◌-◌, ◌≤◌, ◌<◌}
use native.Mathlib.Nat.{add-zero}
use native.Mathlib.Numerals.{add-one}
use native.Mathlib.Omega.{arith}
use lib.Dec.{leb, eqb}
use lib.ListN.{length, get_or, take, drop, length-drop}
use lib.Seq.{drop-drop, get_or-drop, length-take-le}
use borrow.Author.Tests.{leb-true, ne_eqb}
use Rattle.rules.specs.Sizes.{book_most, stored_most, name_most}
use Rattle.rules.specs.Points.{wide}
use Rattle.rules.specs.Search.{Stored, no_text}
use Rattle.rules.specs.Bytes.{within, rises}
use Rattle.rules.specs.Book.{Record, records_of, also, entries_of, sound_body, stored_kind, follows, sound_records, table_in, stored_in, stored_of, stored_from, stored, names_in, no_part, names_of, edition, filled, sound}
use Rattle.rules.specs.declared.Named.{Named}
use Rattle.rules.proofs.BoolLaws.{and_left, and_right}
use Rattle.rules.proofs.DownLaws.{each_at}
use Rattle.rules.proofs.SoundLaws.{StoredSound, sound-stored, sound-some, body-total, table-size, body-shaped}
use Rattle.records.proofs.StepLaws.{RecordHere}
use Rattle.lists.specs.Parts.{part}
use Rattle.detection_texts.specs.Texts.{stored_left, name_at, names_from, each_body_sound, sound_bodies, Before, first_place, passed_by, Found}
use Rattle.detection_texts.specs.declared.texts.Place.{Place}
use Rattle.detection_texts.specs.declared.texts.Text.{Text}
use Rattle.rules.specs.declared.Kind.{Kind}
use Rattle.rules.specs.Told.{kind_number}

-- ---- a sound book's records have sound bodies
all_sound_lem : (w : Bool) (rs : List Record) (a : ℕ) (name : List ℕ) → sound_records w a name rs ≡ true → each_body_sound w rs ≡ true
unfolding sound_records each_body_sound
all_sound_lem w [] a name h = refl
all_sound_lem w (r ∷ rs) a name h =
    let f = follows a r.kind in
    let n = not (eqb r.kind 1) || rises name r.body in
    let under = cond (eqb r.kind 1) r.body name in
    let more = sound_records w r.kind under rs in
    let s = sound_body w r in
    let b : s ≡ true = and_right f s (and_left (f && s) n (and_left (f && s && n) more h)) in
    rw b (all_sound_lem w rs r.kind under (and_right (f && s && n) more h))

pub before-first : (book : List ℕ) → sound book ≡ true → Before book first_place
unfolding sound stored stored_from sound_bodies filled stored_of stored_left names_of names_from
before-first book h =
    let l = leb (length book) book_most in
    let f = filled (wide (edition book)) (records_of book) in
    let m = leb (length (stored book)) stored_most in
    record {
      at = omega arith;
      name = omega arith;
      past = omega arith;
      few = leb-true (length (stored book)) stored_most (and_right (l && f) m h);
      bodies = bodies (records_of book) (and_right l f (and_left (l && f) m h));
      texts = texts (records_of book);
      names = λ second. names second (records_of book);
    }
  where
    bodies : (o : Option (List Record)) → filled (wide (edition book)) o ≡ true → sound_bodies (wide (edition book)) o ≡ true
    bodies none h = h
    bodies (some rs) h = all_sound_lem (wide (edition book)) rs 0 [] h

    texts : (o : Option (List Record)) → stored_left 0 [] o ≡ stored_of 0 o
    texts none = refl
    texts (some rs) = refl

    names : (second : Bool) (o : Option (List Record)) → names_from second 0 (name_at second 0 0) o ≡ names_of second o
    names second none = refl
    names second (some rs) = refl

-- ---- one record, and what is left
bodies_cons : (w : Bool) (r : Record) (o : Option (List Record)) → sound_bodies w (also r o) ≡ true → (sound_body w r ≡ true) × (sound_bodies w o ≡ true)
unfolding sound_bodies also each_body_sound
bodies_cons w r none h = absurd (false≢true h)
bodies_cons w r (some rs) h = (and_left (sound_body w r) (each_body_sound w rs) h, and_right (sound_body w r) (each_body_sound w rs) h)

abbrev stored_as : ℕ → List ℕ → Record → Stored
stored_as n name r = record { number = n; name = name; kind = r.kind; table = table_in r.body (entries_of r.body) }

stored_cons : (w : Bool) (n : ℕ) (name : List ℕ) (r : Record) (o : Option (List Record)) → sound_bodies w o ≡ true →
    stored_left n name (also r o) ≡
    cond (stored_kind r.kind) (stored_as n name r ∷ []) [] ++
    stored_left (cond (stored_kind r.kind) (suc n) n) (cond (eqb r.kind 1) r.body name) o
unfolding stored_left also stored_in sound_bodies
stored_cons w n name r none h = absurd (false≢true h)
stored_cons w n name r (some rs) h = refl

names_cons : (w : Bool) (second : Bool) (place : ℕ) (p : Named) (r : Record) (o : Option (List Record)) → sound_bodies w o ≡ true →
    names_from second place p (also r o) ≡
    cond (stored_kind r.kind) (p ∷ []) [] ++
    names_from second (place + 6 + length r.body) (cond (eqb r.kind 1) (record { second = second; at = place + 6; len = length r.body }) p) o
unfolding names_from also names_in sound_bodies
names_cons w second place p r none h = absurd (false≢true h)
names_cons w second place p r (some rs) h = refl

module _ (book : List ℕ) (p : Place) (b : Before book p) where
  pub not_done : p.number < length (stored book) → records_of (drop p.at book) ≡ some [] → ⊥
  unfolding stored_left stored_in
  not_done l e =
      let n : 0 ≡ length (drop p.number (stored book)) = ap length (ap (stored_left p.number (part book p.name p.past)) (sym e) ∙ b.texts) in
      omega (arith, length-drop p.number (stored book), n)

  pub not_broken : records_of (drop p.at book) ≡ none → ⊥
  unfolding sound_bodies
  not_broken e = false≢true (ap (sound_bodies (wide (edition book))) (sym e) ∙ b.bodies)

  module _ (kind start len : ℕ) (h : RecordHere book p.at kind start len) where
    abbrev this : Record
    this = record { kind = kind; body = take len (drop start book) }

    abbrev left : Option (List Record)
    left = records_of (drop (start + len) book)

    lent : part book start (start + len) ≡ take len (drop start book)
    lent = let k : start + len - start ≡ len = omega arith in rw k

    sounds : (sound_body (wide (edition book)) this ≡ true) × (sound_bodies (wide (edition book)) left ≡ true)
    sounds = bodies_cons (wide (edition book)) this left (ap (sound_bodies (wide (edition book))) (sym h.is) ∙ b.bodies)

    after : drop p.number (stored book) ≡
        cond (stored_kind kind) (stored_as p.number (part book p.name p.past) this ∷ []) [] ++
        stored_left (cond (stored_kind kind) (suc p.number) p.number) (cond (eqb kind 1) (take len (drop start book)) (part book p.name p.past)) left
    after =
        sym b.texts ∙ ap (stored_left p.number (part book p.name p.past)) h.is ∙
        stored_cons (wide (edition book)) p.number (part book p.name p.past) this left sounds.1

    long : length (take len (drop start book)) ≡ len
    long = length-take-le len (drop start book) (omega (arith, length-drop start book, h.fits))

    -- where the names of the texts from here on stand
    after-names : (second : Bool) → drop p.number (names_of second (records_of book)) ≡
        cond (stored_kind kind) (name_at second p.name p.past ∷ []) [] ++
        names_from second (start + len) (cond (eqb kind 1) (name_at second start (start + len)) (name_at second p.name p.past)) left
    after-names second =
        let name = name_at second p.name p.past in
        let n = length (take len (drop start book)) in
        let k : len ≡ start + len - start = omega arith in
        sym (b.names second) ∙ ap (names_from second p.at name) h.is ∙ names_cons (wide (edition book)) second p.at name this left sounds.1 ∙
        ap (λ (s : ℕ). stands s n n) h.begins ∙ ap (λ (m : ℕ). stands start m m) long ∙ ap (stands start len) k
      where
        stands : ℕ → ℕ → ℕ → List Named
        stands s l m =
            cond (stored_kind kind) (name_at second p.name p.past ∷ []) [] ++
            names_from second (s + l) (cond (eqb kind 1) (record { second = second; at = s; len = m }) (name_at second p.name p.past)) left

    pub before-next : stored_kind kind ≡ false → Before book (passed_by p kind start (start + len))
    unfolding passed_by
    before-next q = at (eqb kind 1) refl
      where
        texts : stored_left p.number (cond (eqb kind 1) (take len (drop start book)) (part book p.name p.past)) left ≡ drop p.number (stored book)
        texts = sym (rw q at after)

        names : (second : Bool) → names_from second (start + len) (cond (eqb kind 1) (name_at second start (start + len)) (name_at second p.name p.past)) left ≡
            drop p.number (names_of second (records_of book))
        names second = sym (rw q at (after-names second))

        at : (t : Bool) → eqb kind 1 ≡ t →
            Before book (cond t (record { number = p.number; at = start + len; name = start; past = start + len })
            (record { number = p.number; at = start + len; name = p.name; past = p.past }))
        at true e =
            record {
              at = h.fits;
              name = omega arith;
              past = h.fits;
              few = b.few;
              bodies = sounds.1;
              texts = rw lent (rw e at texts);
              names = λ second. rw e at (names second);
            }
        at false e =
            record {
              at = h.fits;
              name = b.name;
              past = b.past;
              few = b.few;
              bodies = sounds.1;
              texts = rw e at texts;
              names = λ second. rw e at (names second);
            }

    module _ (q : stored_kind kind ≡ true) (l : p.number < length (stored book)) where
      other : eqb kind 1 ≡ false
      unfolding stored_kind within
      other = ne_eqb kind 1 (λ e. false≢true (ap stored_kind (sym e) ∙ q))

      cons : drop p.number (stored book) ≡ stored_as p.number (part book p.name p.past) this ∷ stored_left (suc p.number) (part book p.name p.past) left
      cons = rw (q, other) at after

      first : get_or (stored book) p.number no_text ≡ stored_as p.number (part book p.name p.past) this
      first =
          ap (λ (k : ℕ). get_or (stored book) k no_text) (sym (add-zero p.number)) ∙ sym (get_or-drop p.number (stored book) 0 no_text) ∙
          ap (λ (s : List Stored). get_or s 0 no_text) cons

      rest : stored_left (p.number + 1) (part book p.name p.past) left ≡ drop (p.number + 1) (stored book)
      rest =
          ap (λ (k : ℕ). stored_left k (part book p.name p.past) left) (add-one p.number) ∙ sym (ap (drop 1) cons) ∙ drop-drop 1 p.number (stored book)

      cons_names : (second : Bool) → drop p.number (names_of second (records_of book)) ≡
          name_at second p.name p.past ∷ names_from second (start + len) (name_at second p.name p.past) left
      cons_names second = rw (q, other) at (after-names second)

      first-name : (second : Bool) → get_or (names_of second (records_of book)) p.number no_part ≡ name_at second p.name p.past
      first-name second =
          let all = names_of second (records_of book) in
          ap (λ (k : ℕ). get_or all k no_part) (sym (add-zero p.number)) ∙ sym (get_or-drop p.number all 0 no_part) ∙
          ap (λ (l : List Named). get_or l 0 no_part) (cons_names second)

      rest-names : (second : Bool) → names_from second (start + len) (name_at second p.name p.past) left ≡ drop (p.number + 1) (names_of second (records_of book))
      rest-names second = sym (ap (drop 1) (cons_names second)) ∙ drop-drop 1 p.number (names_of second (records_of book))

      module _ (of : Kind) (is_of : kind_number of ≡ kind) where
        abbrev here : Text
        here = record { number = p.number; kind = of; name = p.name; past = p.past; body = start; end = start + len }

        found_here : Found book p.number here
        found_here =
            let body = take len (drop start book) in
            let s = body-shaped (wide (edition book)) this sounds.0 q in
            let m : length body ≡ len = long in
            record {
              is = rw first
                  (record {
                    name-from = b.name;
                    name-to = b.past;
                    name = refl;
                    kind = is_of;
                    numbered = refl;
                    body-from = omega (arith, table-size body (entries_of body) s);
                    body-to = h.fits;
                    total = rw lent (sym (body-total body (entries_of body) s));
                    entries = rw lent (sound-some body (entries_of body) s);
                    sound = rw lent s;
                  });
              numbered = refl;
              below = omega (arith, b.few);
              named = first-name;
              on = record { at = h.fits; name = b.name; past = b.past; few = b.few; bodies = sounds.1; texts = rest; names = rest-names };
            }

        pub found_as : (k : ℕ) → p.number ≡ k → Found book k here
        found_as k e = subst (λ (n : ℕ). Found book n here) e found_here

-- ---- past a record that is no stored text
either : (t : Bool) (x y : Place) (f : Place → ℕ) (n : ℕ) → f x ≡ n → f y ≡ n → f (cond t x y) ≡ n
either true x y f n h k = h
either false x y f n h k = k

module _ (p : Place) (kind start end : ℕ) where
  abbrev named : Place
  named = record { number = p.number; at = end; name = start; past = end }

  abbrev moved : Place
  moved = record { number = p.number; at = end; name = p.name; past = p.past }

  pub passed_number : (passed_by p kind start end).number ≡ p.number
  unfolding passed_by
  passed_number = either (eqb kind 1) named moved (λ (x : Place). x.number) p.number refl refl

  pub passed_at : (passed_by p kind start end).at ≡ end
  unfolding passed_by
  passed_at = either (eqb kind 1) named moved (λ (x : Place). x.at) end refl refl

-- ---- a text that is found, by another name of its number
pub found_at : {book : List ℕ} {k n : ℕ} {r : Text} → k ≡ n → Found book k r → Found book n r
found_at {book} {k} {n} {r} e f = subst (λ (m : ℕ). Found book m r) e f

-- ---- its name's length, in a sound book
pub found_name : (book : List ℕ) (k : ℕ) (r : Text) → sound book ≡ true → k < length (stored book) → Found book k r →
    (1 ≤ r.past - r.name) × (r.past - r.name ≤ name_most)
found_name book k r h l f =
    let s = each_at StoredSound (stored book) k no_text l (sound-stored book h) in
    let t = f.is in
    let m = length-take-le (r.past - r.name) (drop r.name book) (omega (arith, length-drop r.name book, t.name-to)) in
    (omega (arith, s.name-from, ap length t.name, m), omega (arith, s.name-to, ap length t.name, m))
