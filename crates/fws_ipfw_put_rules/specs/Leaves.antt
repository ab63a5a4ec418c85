-- Tests of all leaves of a tree.
use Rattle.std.specs.Prelude.{Bool, true, ◌&&◌}
use Rattle.fws_tree.specs.Plain.{Plain, leaf, cut, Kids, none, kid}

-- each leaf meets the test
abbrev mutual
  pub all_leaves : {L : Type 0} → (L → Bool) → Plain L → Bool
  all_leaves test (leaf a) = test a
  all_leaves test (cut f ks) = all_kid_leaves test ks

  pub all_kid_leaves : {L : Type 0} → (L → Bool) → Kids L → Bool
  all_kid_leaves test none = true
  all_kid_leaves test (kid s t ks) = all_leaves test t && all_kid_leaves test ks
