use Rattle.dmr_command.proofs.request.config_of.Goals as goal

pub returns : goal.returns
returns c = record {
  settings = record {
    colour = c.octet_of.result;
    colour_number = c.octet_of.ensures.number;
    llid = c.address_of.result;
    llid_number = c.address_of.ensures.number;
    call_hang = c.frames_of.result;
    call_hang_number = c.frames_of.ensures.number;
    channel_hang = c.frames_of-2.result;
    channel_hang_number = c.frames_of-2.ensures.number;
    queue = c.octet_of-2.result;
    queue_number = c.octet_of-2.ensures.number;
    set_colour = c.new.ensures.colour;
    set_llid = c.new.ensures.llid;
    set_call_hang = c.new.ensures.call_hang;
    set_channel_hang = c.new.ensures.channel_hang;
    set_queue = c.new.ensures.queue;
    valid = c.new.ensures.valid;
    fault = c.new.ensures.fault;
  };
}
