use Rattle.dmr_tools.proofs.request.form_of.Goals as goal

pub returns : goal.returns
returns c = record {
  form = record {
    strip = c.flag_of.result;
    strip_flag = c.flag_of.ensures.flag;
    json = c.flag_of-2.result;
    json_flag = c.flag_of-2.ensures.flag;
    value = c.form_by.ensures.value;
  };
}
