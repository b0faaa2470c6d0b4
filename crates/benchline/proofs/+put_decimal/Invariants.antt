-- The digits before the last are those of n / 10. Assumes nothing.
use Rattle.benchline.proofs.+put_decimal.Given as goal

abbrev pub decreases-put_decimal : goal.decreases-put_decimal
decreases-put_decimal l = l.n
