use Rattle.fws_test_configs.proofs.languages.drawable.Goals as goal

pub returns : goal.returns
returns c = c.spelled_diagrams.ensures c.args.site.now c.args.text.now c.in_ok-config.config c.in_ok-config.ensures
