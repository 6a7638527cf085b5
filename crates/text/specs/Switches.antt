-- The switches: all that the two editions of Duper differ in (document 02, Req 08: "In 0.2.0, .. Beyond this list nothing differs").
-- Every definition that depends on the edition takes them as its first argument, so that what is proved of one is proved of both.
-- The record is the code's own struct, src/switches.rt, which says what each switch decides.
-- Assumes nothing.
use Rattle.std.specs.Prelude.{true, false}
use Rattle.text.specs.declared.switches.Switches.{Switches}

-- the present edition: document 01's rules
unfoldable pub present_edition : Switches
present_edition =
    record {
      quoted_tab = false;
      quoted_feed = true;
      raw_return = false;
      long_escape = true;
      base64 = true;
      lone_comma = true;
      ticks = true;
    }
