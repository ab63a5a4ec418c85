-- The text of a printable configuration is read as that configuration.
use Rattle.std.specs.Prelude.{◌≡◌, true, Ok}
use Rattle.fws_net.specs.declared.site.Site.{Site}
use Rattle.fws_net.specs.SiteLaws.{IsOrderly}
use Rattle.fws_ipfw.specs.declared.config.IpfwConfig.{IpfwConfig}
use Rattle.fws_ipfw.specs.FileText.{spelled}
use Rattle.fws_ipfw_print.specs.Printable.{is_printable}
use Rattle.fws_ipfw_print.specs.PrintedText.{config_text}

abbrev pub PrintedTextsAreRead : Type 0
PrintedTextsAreRead = (site : Site) (c : IpfwConfig) → IsOrderly site → is_printable site c ≡ true → spelled site (config_text site c) ≡ Ok c
