use Rattle.std.proofs.Common.{refl, sym, ap, Some, ◌∙◌}
use Rattle.clap.specs.Words.{found_of}
use Rattle.dmr_tools.proofs.request.export_request.Goals as goal

pub returns-in-Some-text-default : goal.returns-in-Some-text-default
returns-in-Some-text-default c =
    let text = c.in-Some-text-default in record {
      asked = (
        refl,
        record {
          found = found_of text.files.now;
          of_format = record {
            name = sym text.ensures.name ∙ ap Some text.is-text;
            rows = sym text.ensures.rows;
          };
          are_settings = tt;
          are_places = c.places_of.ensures.places;
        },
      );
    }

pub returns-in-Some : goal.returns-in-Some
returns-in-Some c =
    let capture = c.in-Some-datagrams-default in record {
      asked = (
        refl,
        record {
          found = found_of capture.files.now;
          of_format = record {
            name = sym capture.ensures.name ∙ ap Some capture.is-datagrams;
            rows = sym capture.ensures.rows;
          };
          are_settings = record { slot = c.exported_slot_of.ensures.number };
          are_places = c.places_of-in-Some.ensures.places;
        },
      );
    }

pub returns-in-Some-burst_settings_of : goal.returns-in-Some-burst_settings_of
returns-in-Some-burst_settings_of c =
    let capture = c.in-Some-dmrd-default in record {
      asked = (
        refl,
        record {
          found = found_of capture.files.now;
          of_format = record {
            name = sym capture.ensures.name ∙ ap Some capture.is-dmrd;
            rows = sym capture.ensures.rows;
          };
          are_settings = c.in-Some-burst_settings_of.ensures.settings;
          are_places = c.places_of-in-Some-dmrd-default.ensures.places;
        },
      );
    }
