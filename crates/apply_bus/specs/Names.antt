-- A name for no bus, and one for no claims, where some name is needed.
use Rattle.std.specs.Prelude.{[]}
use Rattle.atomic_table.specs.Seated.{TableId}
use Rattle.apply_bus.specs.Bus.{BusName}
use Rattle.apply_bus.specs.Claims.{ClaimsName}

abbrev no_table : TableId
no_table = record { words = 0; slots = 0; views_name = 0; atom = 0; block = 0; offset = 0; slot_names = [] }

abbrev pub no_bus : BusName
no_bus = record { table = no_table; key = record { marker = record {}; table_id = no_table; id = 0; views = [] } }

abbrev pub no_claims : ClaimsName
no_claims = record { table = no_table; limit = 0; workers = 0 }
