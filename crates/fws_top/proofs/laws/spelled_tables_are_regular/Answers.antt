use Rattle.fws_top.proofs.laws.spelled_tables_are_regular.Goals as goal

pub returns : goal.returns
returns g c = λ site text config tables given made.
    c.regular_walks_make_regular_tables.ensures site (g.L.Source.walk config site) tables (c.spelled_walks_are_regular.ensures site text config given) made
