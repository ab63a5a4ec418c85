use Rattle.std.proofs.Common.{◌<◌, length, arith}
use Rattle.std.proofs.lemmas.Bool.Decides.{nat_tests}
use Rattle.fws_pf_words.proofs.Keeping.{fault_given, value_given}
use Rattle.fws_pf_words.proofs.defined.value_defined.Goals as goal

pub returns-in-Ok : goal.returns-in-Ok
returns-in-Ok c =
    let some : 0 < length c.args.words.now = grind (arith, nat_tests, c.is_empty.ensures, c.if-is_empty.false) in
    value_given c.args.macros.now c.args.words.now c.new-kept.result c.keep_value.new.kept c.whole_value.result some c.new-kept.ensures c.in-Ok.ensures c.whole_value.ensures

pub returns-in-Err : goal.returns-in-Err
returns-in-Err c =
    let some : 0 < length c.args.words.now = grind (arith, nat_tests, c.is_empty.ensures, c.if-is_empty.false) in
    fault_given c.args.macros.now c.args.words.now c.new-kept.result c.in-Err.fault some c.new-kept.ensures c.in-Err.ensures
