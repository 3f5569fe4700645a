-- `put_number`, which calls itself: the digits before the last, and the last. The measure is the number.
-- Assumes nothing.
use Rattle.questions.proofs.numbers.+put_number.Given as goal

abbrev pub decreases-put_number : goal.decreases-put_number
decreases-put_number l = l.x
