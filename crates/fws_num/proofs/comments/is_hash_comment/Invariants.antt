use Rattle.std.proofs.Common.{◌≡◌, drop}
use Rattle.fws_num.specs.Comments.{is_hash_comment}
use Rattle.fws_num.proofs.comments.is_hash_comment.Given as goal

abbrev pub invariant-loop-c : goal.invariant-loop-c
invariant-loop-c l = is_hash_comment (drop l.c-index l.line) ≡ is_hash_comment l.line
