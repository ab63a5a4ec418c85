-- Flags before and behind a slash.
use Rattle.std.proofs.Common.{◌≡◌, ℕ, ◌&&◌, ◌||◌, List, ◌++◌}
use Rattle.std.proofs.lemmas.List.Folds.{list_all-append, list_any-append}
use Rattle.std.specs.List.{list_all, list_any}
use Rattle.fws_pf.specs.RuleText.{is_congestion, is_flag_letter}

pub all_letters : (front back : List ℕ) → list_all is_flag_letter (front ++ back) ≡ (list_all is_flag_letter front && list_all is_flag_letter back)
all_letters front back = list_all-append is_flag_letter front back

pub some_congestion : (front back : List ℕ) → list_any is_congestion (front ++ back) ≡ (list_any is_congestion front || list_any is_congestion back)
some_congestion front back = list_any-append is_congestion front back
