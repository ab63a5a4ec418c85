-- Tables have in common what the tables of all systems have.
use Rattle.fws_net.specs.declared.site.Site.{Site}
use Rattle.fws_net.specs.RegularWalks.{IsRegularWalk}
use Rattle.fws_tree.specs.declared.tables.Tables.{Tables}
use Rattle.fws_tree.specs.Regular.{AreRegular}
use Rattle.fws_top.specs.Walked.{AreTablesOf, Walk}

-- the tables of a regular walk are regular
abbrev pub RegularWalksMakeRegularTables : Type 0
RegularWalksMakeRegularTables = (site : Site) (walk : Walk) (tables : Tables)
    → IsRegularWalk site walk → AreTablesOf site walk tables → AreRegular site tables
