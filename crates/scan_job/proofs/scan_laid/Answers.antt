-- `scan_job::scan_laid` meets its contract: the note's lines are laid, the scan of its mode ends, and its answer is the definition's.
-- Assumes nothing.
use mathlib.Core.Path.{sym, ap, ◌∙◌}
use mathlib.Core.List.{List}
use native.Mathlib.Omega.{arith}
use Prim.Native.Nat.{ℕ}
use Rattle.slices.proofs.KindLaws.{edition-classes}
use Rattle.license_notes.proofs.LaidLaws.{noted_lines}
use Rattle.detection_shelf.specs.Shelves.{shelf, texts}
use Rattle.rules.specs.Scan.{events}
use Rattle.scan_job.proofs.ModeLaws.{eliminated_as, eliminated_of}
use Rattle.scan_answer.proofs.AnswerLaws.{scan-room, answer_fits, answer-is, results_are}
use Rattle.scan_job.proofs.scan_laid.Goals as goal

pub lay-lines-requires : goal.lay-lines-requires
lay-lines-requires c = let p = c.requires.scan_through in
    (edition-classes _ c.class_table-class.ensures, p.both.text, p.bytes, p.words)

pub scan_mode-outcome-requires : goal.scan_mode-outcome-requires
scan_mode-outcome-requires c = let a = c.args in
    let p = c.requires.scan_through in record {
      scanning = record {
        classes = edition-classes _ c.class_table-class.ensures;
        laid = c.lay-lines.ensures.laid;
        few = omega (arith, c.lay-lines.ensures.count, p.both.few);
        counted = c.requires.counts_of;
        some-text = p.both.some;
      };
      mode_value = p.step;
      lines_in_bounds = scan-room a.text.now (shelf a.book.now a.second.now) a.limits a.mode a.budget _ a.results.now c.requires.scan_through _ c.of.ensures _ (noted_lines _ _ _ _ _ c.edition_of.ensures c.class_table-class.ensures c.lay-lines.ensures.lines);
      note_len_bound = p.both.text.short;
    }

pub answer-requires : goal.answer-requires
answer-requires c = let a = c.args in
    let e = ap (λ (ls : List (List ℕ)). events a.limits a.mode (texts (shelf a.book.now a.second.now)) ls) (sym (noted_lines _ _ _ _ _ c.edition_of.ensures c.class_table-class.ensures c.lay-lines.ensures.lines)) in
    let h = eliminated_as e (eliminated_of c.of.ensures c.scan_mode-outcome.ensures) in
    record { name_fits = h.name; left_le_budget = answer_fits a.text.now (shelf a.book.now a.second.now) a.limits a.mode a.budget a.results.now _ _ h }

pub returns : goal.returns
returns c = let a = c.args in
    let e = ap (λ (ls : List (List ℕ)). events a.limits a.mode (texts (shelf a.book.now a.second.now)) ls) (sym (noted_lines _ _ _ _ _ c.edition_of.ensures c.class_table-class.ensures c.lay-lines.ensures.lines)) in
    let h = eliminated_as e (eliminated_of c.of.ensures c.scan_mode-outcome.ensures) in
    let books = shelf a.book.now a.second.now in
    record {
      answer = c.answer.ensures ∙ answer-is a.text.now books a.limits a.mode a.budget a.results.now _ _ h;
      results = results_are a.text.now books a.limits a.mode a.budget a.results.now _ _ h;
    }
