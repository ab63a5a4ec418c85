use Rattle.fws_pf_read.proofs.taking.others_taken.Goals as goal

pub returns-clause-given : goal.returns-clause-given
returns-clause-given g c = λ t macros tags are. c.piece_taken.ensures.given t macros tags tt are

pub returns-clause-known : goal.returns-clause-known
returns-clause-known g c = λ macros are. c.piece_taken.ensures.known macros tt are

pub returns-then-not-is_in_list-clause-given : goal.returns-then-not-is_in_list-clause-given
returns-then-not-is_in_list-clause-given g c = λ t macros tags are. c.rest_taken.ensures.given t tags

pub returns-then-not-is_in_list-clause-known : goal.returns-then-not-is_in_list-clause-known
returns-then-not-is_in_list-clause-known g c = λ macros are. c.rest_taken.ensures.known macros
