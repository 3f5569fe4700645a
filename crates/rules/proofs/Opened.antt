-- To compute: whoever unfolds `opened` unfolds every definition of specs/.
-- Assumes nothing.
use Rattle.rules.specs.Bytes.{text, within, among, newline, space, upper, lower, digit, word, quote, high_mark, dropped, lead, line_len, solid, starts, holds, every, keep, runs, trim_start, add_front, trim_end, trim, on_first, split, join, order, same, rises}
use Rattle.rules.specs.Points.{opens, utf8, ascii, wide, taken, points_on, points, encoded}
use Rattle.rules.specs.Class.{sign_of, class_of}
use Rattle.rules.specs.Lines.{url, urls, slip, gap, signs, line_by, lines_by, line, lines, line_count, line_start, line_end, range_end, size}
use Rattle.rules.specs.Prefix.{common, prefixes, see, see_all, winner, reach, reached, four_fifths, strip, strip_winner, without_prefix}
use Rattle.rules.specs.Passes.{vertical, lowered, title_end, title_rest, title_line, without_title, paragraph, hit_a, hit_b, item, spaced, items, hit_c, or_else, hit, without_copyright, passes, aggressive}
use Rattle.rules.specs.Table.{pairs, bigrams, tally, tallied, occurs, table_of, view_table, count_in, meet, float, score, value_of}
use Rattle.rules.specs.Search.{whole, viewed, blank, no_text, scored, score_view, turns, recurse, higher, sweep_from, sweep, narrow, search, bounds, no_best, ahead, better, best_from, best}
use Rattle.rules.specs.Scan.{after, names, stops, below, each_pass, elimination, steps_on, steps, views_of, latest, settled, contained, and_on, down_on, down_from, top_down, events, afford, scorings, records, verdict, six, numbers}
use Rattle.rules.specs.Count.{enough, rounds_on, rounds, most_for, most_elimination, most_top_down}
use Rattle.rules.specs.Book.{number, written, front, also, go_on, pieces, record_of, records_of, placed, record_at, next_place, entry_of, entries_of, sum, term, two_terms, all_terms, sound_entries, shaped, sound_table, sound_name, stored_kind, sound_edition, sound_body, follows, sound_records, table_in, stored_in, stored_of, stored_from, stored, said_by, said_at, edition, shelved, all_sound, edition_of, all_of, differ, names_in, names_of, name_parts, filled, sound, entries_out, table_out, compiled}
use Rattle.rules.specs.Refusal.{refusal, of_text, of_books, small, of_check, before_compile, of_compile, of_view, of_name, unit, step_zero, records_most, results_need, over_budget, before_scan, of_scan}
use Rattle.rules.specs.Jobs.{area_after, over, check, compile, output_after, score_job, bounds_found, bounds_job, happened, named, name_part, answered, scan, results_after, numbered, name_job}
use lib.Ieee.{div, of_int, of_bits, to_bits, lt, le}

unfoldable pub opened : Unit {0}
unfolding
    text within among newline space upper lower digit word quote high_mark dropped lead line_len solid starts holds every keep runs trim_start add_front trim_end trim on_first split join order same rises
    opens utf8 ascii wide taken points_on points encoded
    sign_of class_of
    url urls slip gap signs line_by lines_by line lines line_count line_start line_end range_end size
    common prefixes see see_all winner reach reached four_fifths strip strip_winner without_prefix
    vertical lowered title_end title_rest title_line without_title paragraph hit_a hit_b item spaced items hit_c or_else hit without_copyright passes aggressive
    pairs bigrams tally tallied occurs table_of view_table count_in meet float score value_of
    whole viewed blank no_text scored score_view turns recurse higher sweep_from sweep narrow search bounds no_best ahead better best_from best
    after names stops below each_pass elimination steps_on steps views_of latest settled contained and_on down_on down_from top_down events afford scorings records verdict six numbers
    enough rounds_on rounds most_for most_elimination most_top_down
    number written front also go_on pieces record_of records_of placed record_at next_place entry_of entries_of sum term two_terms all_terms sound_entries shaped sound_table sound_name stored_kind sound_edition sound_body follows sound_records table_in stored_in stored_of stored_from stored said_by said_at edition shelved all_sound edition_of all_of differ names_in names_of name_parts filled sound entries_out table_out compiled
    refusal of_text of_books small of_check before_compile of_compile of_view of_name unit step_zero records_most results_need over_budget before_scan of_scan
    area_after over check compile output_after score_job bounds_found bounds_job happened named name_part answered scan results_after numbered name_job
    div of_int of_bits to_bits lt le
opened = tt
