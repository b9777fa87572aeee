-- What the lines of a form are written in.
use Rattle.dmr_show.specs.declared.form.Form.{Form}
use Rattle.dmr_show.specs.declared.form.Form.TheVariants as form
use Rattle.dmr_show.specs.declared.form.Notation.{Notation}
use Rattle.dmr_show.specs.declared.form.Notation.TheVariants as notation

abbrev pub notation_of : Form → Notation
notation_of form.Listing = notation.Text
notation_of form.Strip = notation.Text
notation_of form.Json = notation.Json
